use Rattle.std.proofs.Common.{◌≡◌, ◌+◌, ◌/◌, length, take, [], sym, ◌∙◌, ap, arith}
use Rattle.std.proofs.lemmas.List.{append-nil, take_all}
use Rattle.std.proofs.lemmas.Nat.{le-div}
use Rattle.corr_disk.specs.Disk.{written}
use Rattle.corr_disk.proofs.laws.Counted.{no_calls, calls_within}
use Rattle.jrn_file.proofs.Sent.{written-none}
use Rattle.jrn_file.proofs.Shut.{shut-start, shut-write}
use Rattle.jrn_file.proofs.sending.Sender.give_some.Goals as goal

pub returns-in_err-write_at-clause-shut : goal.returns-in_err-write_at-clause-shut
returns-in_err-write_at-clause-shut g c after shut =
    let D = g.D.Disk in
    let old = c.args.disk.now in
    shut-write D.may_leave D.moment D.left_since g.met.D.Disk.only_now old old c.write_at.new.self c.take_in-count.new.self.at _
    (omega (arith, after, c.take_in-count.ensures.place)) (shut-start D.may_leave D.moment D.left_since g.met.D.Disk.only_now old shut)
    c.write_at.ensures.crash c.write_at.ensures.time

pub returns-in_ok-write_at-clause-shut : goal.returns-in_ok-write_at-clause-shut
returns-in_ok-write_at-clause-shut g c after shut =
    let D = g.D.Disk in
    let old = c.args.disk.now in
    shut-write D.may_leave D.moment D.left_since g.met.D.Disk.only_now old old c.write_at.new.self c.take_in-count.new.self.at _
    (omega (arith, after, c.take_in-count.ensures.place)) (shut-start D.may_leave D.moment D.left_since g.met.D.Disk.only_now old shut)
    c.write_at.ensures.crash c.write_at.ensures.time

pub returns-in_err-write_at-clause-no_more_calls : goal.returns-in_err-write_at-clause-no_more_calls
returns-in_err-write_at-clause-no_more_calls g c =
    let plan = g.D.Disk.plan in
    let size = length c.args.self.now.buffer.items in
    let full : c.take_in-count.new.self.filled ≡ size = omega (arith, c.if-self-len.true, c.len.ensures, c.take_in-count.ensures.size) in
    calls_within 1 ((c.args.self.now.filled + length c.args.bytes.now) / size) (plan c.args.disk.now) (plan c.write_at.new.self) c.write_at.ensures.next
    (le-div 1 (c.args.self.now.filled + length c.args.bytes.now) size (omega (arith, c.requires.by.few))
    (omega (arith, full, c.take_in-count.ensures.filled, c.take_in-count.ensures.count)))

pub returns-in_ok-write_at-clause-no_more_calls : goal.returns-in_ok-write_at-clause-no_more_calls
returns-in_ok-write_at-clause-no_more_calls g c =
    let plan = g.D.Disk.plan in
    let size = length c.args.self.now.buffer.items in
    let full : c.take_in-count.new.self.filled ≡ size = omega (arith, c.if-self-len.true, c.len.ensures, c.take_in-count.ensures.size) in
    calls_within 1 ((c.args.self.now.filled + length c.args.bytes.now) / size) (plan c.args.disk.now) (plan c.write_at.new.self) c.write_at.ensures.next
    (le-div 1 (c.args.self.now.filled + length c.args.bytes.now) size (omega (arith, c.requires.by.few))
    (omega (arith, full, c.take_in-count.ensures.filled, c.take_in-count.ensures.count)))

pub returns-in_ok-write_at-clause-sent : goal.returns-in_ok-write_at-clause-sent
returns-in_ok-write_at-clause-sent g c =
    let reads = g.D.Disk.reads in
    let taken = c.take_in-count.new.self in
    let items = taken.buffer.items in
    let old = c.args.self.now in
    let size = length old.buffer.items in
    let full : taken.filled ≡ length items = omega (arith, c.if-self-len.true, c.len.ensures) in
    let all : take taken.filled items ≡ items = take_all taken.filled items (omega (arith, full)) in
    record {
      sent = items;
      pieces = 1;
      is = sym c.take_in-count.ensures.taken ∙ all ∙ sym (append-nil items);
      whole = omega (arith, c.take_in-count.ensures.size);
      place = omega (arith, c.take_in-count.ensures.place, full);
      told = λ told. c.in_ok-write_at.ensures.answer told
          ∙ ap (λ l. written taken.at l (reads c.args.disk.now)) c.as_slice.ensures.value
          ∙ ap (λ n. written n items (reads c.args.disk.now)) c.take_in-count.ensures.place;
      calls = c.in_ok-write_at.ensures.next;
      by = record { size = c.take_in-count.ensures.size; few = omega (arith, c.requires.by.few) };
    }

pub returns-else-self-len-clause-sent : goal.returns-else-self-len-clause-sent
returns-else-self-len-clause-sent g c =
    let old = c.args.self.now in
    let size = length old.buffer.items in
    let bytes = g.D.Disk.reads c.args.disk.now in
    record {
      sent = [];
      pieces = 0;
      is = sym c.take_in-count.ensures.taken;
      whole = omega arith;
      place = omega (arith, c.take_in-count.ensures.place);
      told = λ told. sym (written-none old.at bytes);
      calls = no_calls (g.D.Disk.plan c.args.disk.now);
      by = record {
        size = c.take_in-count.ensures.size;
        few = omega (arith, c.if-self-len.false, c.len.ensures, c.requires.by.few, c.take_in-count.ensures.size, c.take_in-count.ensures.filled, c.take_in-count.ensures.count);
      };
    }
