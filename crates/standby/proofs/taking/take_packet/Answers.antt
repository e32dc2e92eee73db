use Rattle.std.proofs.Common.{◌∙◌, ◌+◌, ap, inl, refl, sym}
use Rattle.standby.specs.Following.{disk_in, held_in}
use Rattle.standby.specs.Taking.{IsBeforeOrTaken}
use Rattle.standby.proofs.Kept.{kept-on_disk, stays}
use Rattle.standby.proofs.Takes.{added-ships, skipped-ships}
use Rattle.standby.proofs.taking.take_packet.Goals as goal

pub returns-in-None-clause-any_moment : goal.returns-in-None-clause-any_moment
returns-in-None-clause-any_moment g c = λ told.
    let D = g.D.Disk in
    let place = c.args.place.now in
    stays D.honest D.reads D.may_leave D.moment D.left_since g.met.D.Disk.only_now (disk_in place) (held_in place) (IsBeforeOrTaken (held_in place) c.args.packet.now)
    (kept-on_disk D.honest D.reads D.may_leave place c.requires.kept) (λ image stands. inl stands) told

pub returns-then-not-is_next-clause-shows : goal.returns-then-not-is_next-clause-shows
returns-then-not-is_next-clause-shows g c =
    let have = c.count-have.ensures in (
      refl,
      c.in-Some.number,
      c.in-Some.record.now,
      c.in-Some.ensures.found,
      (λ is. c.if-not-is_next.ensures.other (is ∙ ap (λ n. n + 1) (sym have))),
      have,
      refl,
      refl,
    )

pub returns-then-not-is_next-clause-ships : goal.returns-then-not-is_next-clause-ships
returns-then-not-is_next-clause-ships g c =
    skipped-ships (held_in c.args.place.now) c.args.packet.now c.in-Some.record.now c.in-Some.number c.in-Some.ensures.found
    (λ is. c.if-not-is_next.ensures.other (is ∙ ap (λ n. n + 1) (sym c.count-have.ensures)))

pub returns-then-not-is_next-clause-any_moment : goal.returns-then-not-is_next-clause-any_moment
returns-then-not-is_next-clause-any_moment g c = λ told.
    let D = g.D.Disk in
    let place = c.args.place.now in
    stays D.honest D.reads D.may_leave D.moment D.left_since g.met.D.Disk.only_now (disk_in place) (held_in place) (IsBeforeOrTaken (held_in place) c.args.packet.now)
    (kept-on_disk D.honest D.reads D.may_leave place c.requires.kept) (λ image stands. inl stands) told

pub add-requires-clause-number : goal.add-requires-clause-number
add-requires-clause-number g c = c.if-not-is_next.ensures.next ∙ ap (λ n. n + 1) c.count-have.ensures

pub returns-in_ok-add-in-Some-clause-ships : goal.returns-in_ok-add-in-Some-clause-ships
returns-in_ok-add-in-Some-clause-ships g c =
    let next = c.if-not-is_next.ensures.next ∙ ap (λ n. n + 1) c.count-have.ensures in
    added-ships (held_in c.args.place.now) (held_in c.add.new.self) c.args.packet.now c.in-Some.record.now c.in-Some.number c.requires.good c.in-Some.ensures.found next c.in_ok-add-in-Some.ensures.shows.0
