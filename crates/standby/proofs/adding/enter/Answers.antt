use Rattle.std.proofs.Common.{◌≡◌, ◌∙◌, ◌+◌, ap, arith, inl, length, refl, subst}
use Rattle.std.proofs.lemmas.Result.{err_from_is_err_and}
use Rattle.jrn_file.specs.File.{disk_of}
use Rattle.jrn_file.specs.Faults.{AppendCause}
use Rattle.jrn_file.specs.declared.fault.AppendFault.{AppendFault}
use Rattle.jrn_codec.specs.Header.{head_bytes}
use Rattle.jrn_codec.proofs.laws.Records.{few_in_item}
use Rattle.jrn_book.specs.Journal.{item_records}
use Rattle.standby.specs.Held.{journal}
use Rattle.standby.specs.inner.Held.{IsBeforeOrWith}
use Rattle.standby.proofs.Kept.{entered-settled, moments-entered, stays}
use Rattle.standby.proofs.Takes.{frame-long, full-shows, has-come, is-frame, may-come, refused-shows, room-unless, same-held}
use Rattle.standby.proofs.adding.enter.Goals as goal

pub returns-in_err-ready-clause-shows : goal.returns-in_err-ready-clause-shows
returns-in_err-ready-clause-shows g c =
    let p = err_from_is_err_and c.from_residual.result c.from_residual.ensures.1 in
    let old = c.args.past.now in
    let faults = g.D.Disk.faults (disk_of c.args.file.now) in
    rw (p.1, p.2)
    (refused-shows (journal old.accounts old.history) _ c.args.number c.args.record.now faults faults _ c.in_err-ready.ensures.refused refl
    (same-held old c.read_next.new.past c.read_next.ensures.same))

pub returns-in_err-ready-clause-any_moment : goal.returns-in_err-ready-clause-any_moment
returns-in_err-ready-clause-any_moment g c = λ told.
    let D = g.D.Disk in
    let old = c.args.past.now in
    stays D.honest D.reads D.may_leave D.moment D.left_since g.met.D.Disk.only_now (disk_of c.args.file.now) (journal old.accounts old.history)
    (IsBeforeOrWith (journal old.accounts old.history) c.args.record.now) (record { stands = c.requires.settled.stands; alone = c.requires.settled.durable }) (λ image stands. inl stands) told

pub append-requires-clause-frame : goal.append-requires-clause-frame
append-requires-clause-frame g c =
    let next = c.in_ok-ready.ensures.next in
    is-frame c.args.record.now c.bytes.result.now (c.bytes.ensures ∙ c.in_ok-ready.ensures.frame) (omega (arith, few_in_item next.0 next.1.0, ap length next.2))

pub returns-in-Ok-clause-shows : goal.returns-in-Ok-clause-shows
returns-in-Ok-clause-shows g c =
    let old = c.args.past.now in
    let next = c.in_ok-ready.ensures.next in
    let comes = has-come old c.read_next.new.past c.note.new.self next.0 c.args.record.now c.read_next.ensures.same next.1 next.2 (c.note.ensures next.0 next.3) in
    let long = frame-long c.args.record.now c.in_ok-ready.frame c.in_ok-ready.ensures.frame in
    let room = room-unless old.accounts old.history c.args.record.now c.args.file.now.end (length c.bytes.result.now + 1) c.requires.settled.place
    (omega (arith, long, ap length c.bytes.ensures)) (λ lt. let full = c.in-Ok.ensures.full.1 lt in absurd (cc (full))) in
    (comes, room, c.in-Ok.ensures.kept)

pub returns-in-Ok-clause-settled : goal.returns-in-Ok-clause-settled
returns-in-Ok-clause-settled g c = λ whole.
    let D = g.D.Disk in
    let old = c.args.past.now in
    let next = c.in_ok-ready.ensures.next in
    let comes = has-come old c.read_next.new.past c.note.new.self next.0 c.args.record.now c.read_next.ensures.same next.1 next.2 (c.note.ensures next.0 next.3) in
    entered-settled D.honest D.reads D.may_leave old.accounts c.note.new.self.accounts old.history c.note.new.self.history c.args.record.now c.bytes.result.now c.append.new.self c.requires.good comes
    (c.bytes.ensures ∙ c.in_ok-ready.ensures.frame) (c.in-Ok.ensures.ok (head_bytes old.accounts) (item_records old.accounts old.history) c.requires.settled)

pub returns-in-Ok-clause-any_moment : goal.returns-in-Ok-clause-any_moment
returns-in-Ok-clause-any_moment g c = λ told.
    let D = g.D.Disk in
    let old = c.args.past.now in
    let next = c.in_ok-ready.ensures.next in
    moments-entered D.moment D.left_since (disk_of c.args.file.now) (disk_of c.append.new.self) old.accounts old.history c.args.record.now c.bytes.result.now
    (may-come old.accounts old.history next.0 c.args.record.now next.1 next.2) (c.bytes.ensures ∙ c.in_ok-ready.ensures.frame)
    (c.in-Ok.ensures.any_moment (head_bytes old.accounts) (item_records old.accounts old.history) c.requires.settled told)

pub returns-in-Err-Full-clause-shows : goal.returns-in-Err-Full-clause-shows
returns-in-Err-Full-clause-shows g c =
    let D = g.D.Disk in
    let old = c.args.past.now in
    let file = c.args.file.now in
    let next = c.in_ok-ready.ensures.next in
    let long = frame-long c.args.record.now c.in_ok-ready.frame c.in_ok-ready.ensures.frame in
    let more = length c.bytes.result.now + 1 in
    let passes = subst (λ (f : AppendFault). AppendCause (D.faults (disk_of file)) (D.faults (disk_of c.append.new.self)) file.end more (c.append.new.self ≡ file) f) c.in-Err-Full.field-0-is c.in-Err-Full.ensures.cause in
    full-shows old.accounts old.history c.args.number c.args.record.now file.end more c.in-Err-Full.end c.in-Err-Full.need (D.faults (disk_of file)) (D.faults (disk_of c.append.new.self)) _
    (c.append.new.self ≡ file) (may-come old.accounts old.history next.0 c.args.record.now next.1 next.2) c.requires.settled.place (omega (arith, long, ap length c.bytes.ensures)) passes
    (ap (λ f. D.faults (disk_of f)) passes.same) (same-held old c.read_next.new.past c.read_next.ensures.same)

pub returns-in-Err-Full-clause-any_moment : goal.returns-in-Err-Full-clause-any_moment
returns-in-Err-Full-clause-any_moment g c = λ told.
    let D = g.D.Disk in
    let old = c.args.past.now in
    let next = c.in_ok-ready.ensures.next in
    moments-entered D.moment D.left_since (disk_of c.args.file.now) (disk_of c.append.new.self) old.accounts old.history c.args.record.now c.bytes.result.now
    (may-come old.accounts old.history next.0 c.args.record.now next.1 next.2) (c.bytes.ensures ∙ c.in_ok-ready.ensures.frame)
    (c.append.ensures.any_moment (head_bytes old.accounts) (item_records old.accounts old.history) c.requires.settled told)

pub returns-clause-shows : goal.returns-clause-shows
returns-clause-shows g c =
    let D = g.D.Disk in
    let old = c.args.past.now in
    let file = c.args.file.now in
    let next = c.in_ok-ready.ensures.next in
    let long = frame-long c.args.record.now c.in_ok-ready.frame c.in_ok-ready.ensures.frame in
    let more = length c.bytes.result.now + 1 in
    let told = subst (λ (f : AppendFault). AppendCause (D.faults (disk_of file)) (D.faults (disk_of c.append.new.self)) file.end more (c.append.new.self ≡ file) f) c.in-Err-DiskFault.field-0-is c.in-Err-DiskFault.ensures.cause in
    let room = room-unless old.accounts old.history c.args.record.now file.end more c.requires.settled.place (omega (arith, long, ap length c.bytes.ensures))
    (λ lt. let full = c.in-Err-DiskFault.ensures.full.1 lt in absurd (cc (full, c.in-Err-DiskFault.field-0-is))) in
    (may-come old.accounts old.history next.0 c.args.record.now next.1 next.2, room, told, same-held old c.read_next.new.past c.read_next.ensures.same)

pub returns-clause-any_moment : goal.returns-clause-any_moment
returns-clause-any_moment g c = λ told.
    let D = g.D.Disk in
    let old = c.args.past.now in
    let next = c.in_ok-ready.ensures.next in
    moments-entered D.moment D.left_since (disk_of c.args.file.now) (disk_of c.append.new.self) old.accounts old.history c.args.record.now c.bytes.result.now
    (may-come old.accounts old.history next.0 c.args.record.now next.1 next.2) (c.bytes.ensures ∙ c.in_ok-ready.ensures.frame)
    (c.append.ensures.any_moment (head_bytes old.accounts) (item_records old.accounts old.history) c.requires.settled told)
