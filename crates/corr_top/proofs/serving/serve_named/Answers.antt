use Rattle.std.proofs.Common.{◌≡◌, Result, List, map, sym, ap, ◌∙◌, subst, arith}
use Rattle.std.specs.Prelude.{length, slice_get}
use Rattle.std.proofs.lemmas.List.{length-map}
use Rattle.corr_books.specs.Opening.{Opening, opening_with}
use Rattle.corr_books.specs.Passes.{Belongs}
use Rattle.corr_books.specs.Stand.{entries_of}
use Rattle.day_model.specs.declared.pay.Pay.{Pay}
use Rattle.day_model.specs.Chart.{AreBy, Chart}
use Rattle.jrn_book.specs.Journal.{IsJournal}
use Rattle.corr_top.specs.inner.Workers.{Worker}
use Rattle.corr_top.specs.declared.message.NoPay.{NoPay}
use Rattle.corr_top.specs.declared.desk.Served.{Served}
use Rattle.corr_top.specs.inner.Batching.{all_made}
use Rattle.corr_top.specs.Message.{pay_asked_of, readings_of}
use Rattle.corr_top.specs.inner.Serving.{AllServed, AreServedInOrder, AreTold, starting}
use Rattle.corr_top.proofs.Batches.{unmapped}
use Rattle.corr_top.proofs.Batched.{carried, carried_none, done_of, room_for}
use Rattle.corr_top.proofs.Workers.{added_of, all_back, none_of, told_of, turn_of}
use Rattle.corr_top.proofs.serving.serve_named.Goals as goal

pub seat-requires-clause-room : goal.seat-requires-clause-room
seat-requires-clause-room g c =
    let count = c.in-Ok-books.ensures.passes.count in
    let made = ap (λ (o : Opening). o.made) c.requires.named.opening_is in
    omega (arith, count, made, c.in-Ok.ensures.workers.1)

pub run_jobs-worked-requires-clause-passes : goal.run_jobs-worked-requires-clause-passes
run_jobs-worked-requires-clause-passes g c κs within =
    let count = c.in-Ok-books.ensures.passes.count in
    let made = ap (λ (o : Opening). o.made) c.requires.named.opening_is in
    let seated = ap length c.seat.ensures ∙ length-map c.in-Ok-books.made.1.items starting in
    let enough = c.requires.count in
    (omega (arith, count, made, seated, enough.0), omega (arith, count, made, seated, enough.1))

pub run_jobs-worked-requires-clause-taken : goal.run_jobs-worked-requires-clause-taken
run_jobs-worked-requires-clause-taken g c κs within k worker at =
    let u = unmapped starting c.in-Ok-books.made.1.items k worker (ap (λ (ws : List Worker). slice_get ws k) (sym c.seat.ensures) ∙ at) in
    subst (λ (w : Worker). Belongs g.N.BooksName.opening w.pass) u.2 (c.in-Ok-books.ensures.passes.each k u.0 u.1).belongs

pub close_desk-closed-requires-clause-room : goal.close_desk-closed-requires-clause-room
close_desk-closed-requires-clause-room g c =
    let o = g.N.BooksName.opening in
    let count = c.in-Ok-books.ensures.passes.count in
    let made = ap (λ (x : Opening). x.made) c.requires.named.opening_is in
    let worked = c.run_jobs-worked in
    let reading = pay_asked_of c.args.directory.now o.accounts in
    let done = done_of o reading c.seat.new.workers.items worked.result.passes.items c.in-Ok-share_out.batches.items c.args.messages.now c.in-Ok-share_out.ensures (λ v. v.items) worked.result.replies worked.ensures.served in
    let back = all_back o reading c.args.messages.now (λ v. all_made v.items) c.in-Ok-books.made.1.items c.seat.new.workers.items worked.result.passes.items c.seat.ensures worked.result.replies done worked.ensures.none in
    omega (arith, count, made, back, c.in-Ok.ensures.passes.1)

pub close_desk-closed-requires-clause-passes : goal.close_desk-closed-requires-clause-passes
close_desk-closed-requires-clause-passes g c = c.run_jobs-worked.ensures.taken

pub close_desk-closed-requires-clause-all : goal.close_desk-closed-requires-clause-all
close_desk-closed-requires-clause-all g c =
    let o = g.N.BooksName.opening in
    let count = c.in-Ok-books.ensures.passes.count in
    let worked = c.run_jobs-worked in
    let reading = pay_asked_of c.args.directory.now o.accounts in
    let done = done_of o reading c.seat.new.workers.items worked.result.passes.items c.in-Ok-share_out.batches.items c.args.messages.now c.in-Ok-share_out.ensures (λ v. v.items) worked.result.replies worked.ensures.served in
    let back = all_back o reading c.args.messages.now (λ v. all_made v.items) c.in-Ok-books.made.1.items c.seat.new.workers.items worked.result.passes.items c.seat.ensures worked.result.replies done worked.ensures.none in
    omega (arith, count, back)

pub returns-clause-served : goal.returns-clause-served
returns-clause-served g c =
    let o = g.N.BooksName.opening in
    let named = c.requires.named.opening_is ∙ ap (opening_with g.D.Disk c.args.opened c.args.workers) c.requires.most in
    let by : AreBy (length o.base) o.accounts = subst (λ (x : Opening). AreBy (length x.base) x.accounts) (sym named) c.requires.journal.legal.changes.by_now in
    let directory = c.args.directory.now in
    let reading = pay_asked_of directory o.accounts in
    let jobs = c.args.messages.now in
    let news = c.in-Ok-books.made.1.items in
    let new = c.in-Ok-books.ensures.passes in
    let worked = c.run_jobs-worked in
    let before = c.seat.new.workers.items in
    let after = worked.result.passes.items in
    let replies = worked.result.replies in
    let done = done_of o reading c.seat.new.workers.items worked.result.passes.items c.in-Ok-share_out.batches.items c.args.messages.now c.in-Ok-share_out.ensures (λ v. v.items) worked.result.replies worked.ensures.served in
    let served = c.served_of.result in
    let kept = c.served_of.ensures in
    let closed = c.close_desk-closed.result in
    let ends = c.close_desk-closed.ensures in
    let history = closed.history.entries in
    let faults = g.D.Disk.faults closed.disk in
    let closes = ends.closes in
    let read : map reading jobs ≡ readings_of directory c.args.opened.accounts jobs = ap (λ (x : Opening). map (pay_asked_of directory x.accounts) jobs) named in
    let all : AllServed g.D.Disk o g.N.BooksName.past (map reading jobs) (record { closed = closed; served = served }) =
    record {
      left = record {
        accounts = ends.accounts;
        added = entries_of closes.log;
        is = closes.is;
        each = added_of o reading jobs (λ v. all_made v.items) news before after c.seat.ensures history faults new closes replies done worked.ensures.none;
        journal = subst (λ (chart : Chart). IsJournal chart history) ends.accounts ends.journal;
        leaves = ends.disk;
        in_turn = ends.any_moment;
        honest = ends.honest;
      };
      told = carried (λ m. all_made m.items) (λ v. v.items) (λ (l : List Served). AreTold o history (map reading jobs) l) replies served kept.made kept.err (told_of o reading jobs (λ v. all_made v.items) news before after c.seat.ensures history faults new closes replies done);
      turn = carried (λ m. all_made m.items) (λ v. v.items) (λ (l : List Served). o.made ≡ 1 → AreServedInOrder o history (map reading jobs) l) replies served kept.made kept.err (turn_of o reading jobs (λ v. all_made v.items) news before after c.seat.ensures history faults new closes by replies done);
      none = carried_none (history ≡ o.base) replies served kept.ok (none_of o reading jobs (λ v. all_made v.items) news before after c.seat.ensures history faults new closes replies worked.ensures.none);
    } in
    subst (λ (x : Opening × List (Result Pay NoPay)). AllServed g.D.Disk x.0 g.N.BooksName.past x.1 (record { closed = closed; served = served })) (λ i. (named i, read i)) all

-- the share is within what the name tells
pub share_out-requires-clause-few : goal.share_out-requires-clause-few
share_out-requires-clause-few g c = let few = c.share_of-share.ensures.few in let most = c.requires.most in let entries = c.requires.entries.1 in (omega (arith, few, entries), omega (arith, few, most))

-- there is room for what became of each message
pub served_of-requires-clause-room : goal.served_of-requires-clause-room
served_of-requires-clause-room g c =
    let o = g.N.BooksName.opening in
    let worked = c.run_jobs-worked in
    let room = c.in-Ok.ensures.served.1 in
    room_for o (pay_asked_of c.args.directory.now o.accounts) c.seat.new.workers.items worked.result.passes.items c.in-Ok-share_out.batches.items c.args.messages.now c.in-Ok-share_out.ensures (λ v. v.items) _
    (omega (arith, room)) worked.result.replies worked.ensures.served
