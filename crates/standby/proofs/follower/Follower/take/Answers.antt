use Rattle.std.proofs.Common.{◌≡◌, ◌∙◌, Bool, false, ap, refl, subst, sym}
use Rattle.std.specs.Prelude.{IsTrue, Ok, Err}
use Rattle.corr_disk.specs.Disk.{LeavesOnly}
use Rattle.standby.specs.declared.answer.Took.{Took}
use Rattle.standby.specs.Following.{Following, IsFollowing, disk_in, held_in}
use Rattle.standby.specs.Taking.{IsBeforeOrTaken, Ships, TakeShows, broken_after}
use Rattle.standby.proofs.Follows.{broken-now, following-after}
use Rattle.standby.proofs.Kept.{kept-on_disk}
use Rattle.standby.proofs.Takes.{open-shows}
use Rattle.standby.proofs.follower.Follower.take.Goals as goal

pub take_packet-requires-clause-kept : goal.take_packet-requires-clause-kept
take_packet-requires-clause-kept g c = c.self.invariant.kept c.if-self.false

pub returns-in-Ok-clause-shows : goal.returns-in-Ok-clause-shows
returns-in-Ok-clause-shows g c =
    let D = g.D.Disk in
    let inside = c.self.inside in
    let new = c.take_packet.new.place in
    subst (λ (f : Following g.row.D.Denot). TakeShows f.held f.broken f.at_open (D.faults f.disk) (D.faults (disk_in new)) c.args.packet.now (held_in new) (Ok c.in-Ok.took)) c.self.view_is
    (open-shows (held_in inside.place) inside.broken inside.at_open _ _ c.args.packet.now (held_in new) (Ok c.in-Ok.took) c.if-self.false c.in-Ok.ensures.shows)

pub returns-in-Err-clause-shows : goal.returns-in-Err-clause-shows
returns-in-Err-clause-shows g c =
    let D = g.D.Disk in
    let inside = c.self.inside in
    let new = c.take_packet.new.place in
    subst (λ (f : Following g.row.D.Denot). TakeShows f.held f.broken f.at_open (D.faults f.disk) (D.faults (disk_in new)) c.args.packet.now (held_in new) (Err c.in-Err.fault)) c.self.view_is
    (open-shows (held_in inside.place) inside.broken inside.at_open _ _ c.args.packet.now (held_in new) (Err c.in-Err.fault) c.if-self.false c.in-Err.ensures.shows)

pub returns-in-Ok-clause-ships : goal.returns-in-Ok-clause-ships
returns-in-Ok-clause-ships g c =
    subst (λ (f : Following g.row.D.Denot). Ships f.held c.args.packet.now (held_in c.take_packet.new.place)) c.self.view_is c.in-Ok.ensures.ships

pub returns-in-Ok-clause-durable : goal.returns-in-Ok-clause-durable
returns-in-Ok-clause-durable g c =
    let D = g.D.Disk in
    kept-on_disk D.honest D.reads D.may_leave c.take_packet.new.place (c.in-Ok.ensures.kept refl)

pub returns-in-Ok-clause-any_moment : goal.returns-in-Ok-clause-any_moment
returns-in-Ok-clause-any_moment g c =
    let D = g.D.Disk in
    let new = c.take_packet.new.place in
    subst (λ (f : Following g.row.D.Denot). f.broken ≡ false → IsTrue (D.honest f.disk) → LeavesOnly D.moment D.left_since f.disk (disk_in new) (IsBeforeOrTaken f.held c.args.packet.now)) c.self.view_is
    (λ whole told. c.take_packet.ensures.any_moment told)

pub returns-in-Err-clause-any_moment : goal.returns-in-Err-clause-any_moment
returns-in-Err-clause-any_moment g c =
    let D = g.D.Disk in
    let new = c.take_packet.new.place in
    subst (λ (f : Following g.row.D.Denot). f.broken ≡ false → IsTrue (D.honest f.disk) → LeavesOnly D.moment D.left_since f.disk (disk_in new) (IsBeforeOrTaken f.held c.args.packet.now)) c.self.view_is
    (λ whole told. c.take_packet.ensures.any_moment told)

pub returns-in-Err-clause-broken : goal.returns-in-Err-clause-broken
returns-in-Err-clause-broken g c =
    c.is_disk_fault-self-inside.ensures ∙ sym (broken-now c.in-Err.fault)
    ∙ ap (λ (b : Bool). broken_after {A = Took} b (Err c.in-Err.fault)) (sym c.if-self.false ∙ ap (λ (f : Following g.row.D.Denot). f.broken) c.self.view_is)

pub invariant_of-self-in-Err : goal.invariant_of-self-in-Err
invariant_of-self-in-Err g c =
    let D = g.D.Disk in
    let inside = c.self.inside in
    let new = c.take_packet.new.place in
    let before = subst (λ (b : Bool). IsFollowing D.honest D.reads D.may_leave D.faults inside.place inside.at_open b) c.if-self.false c.self.invariant in
    subst (λ (b : Bool). IsFollowing D.honest D.reads D.may_leave D.faults new inside.at_open b) (broken-now c.in-Err.fault ∙ sym c.is_disk_fault-self-inside.ensures)
    (following-after D.honest D.reads D.may_leave D.faults inside.place new inside.at_open c.args.packet.now (Err c.in-Err.fault) before c.in-Err.ensures.shows c.take_packet.ensures.good c.in-Err.ensures.kept)
