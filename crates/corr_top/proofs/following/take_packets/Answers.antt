use Rattle.std.proofs.Common.{ℕ, List, Bool, Err, Ok, ◌∙◌, ap, subst}
use Rattle.corr_disk.specs.Disk.{LeavesOnly}
use Rattle.standby.specs.declared.packet.Packet.{Packet}
use Rattle.standby.specs.Following.{Following}
use Rattle.standby.specs.Taking.{IsBeforeOrTaken, Ships, TakeShows}
use Rattle.corr_top.specs.Followed.{packet_bytes}
use Rattle.corr_top.proofs.PacketsInTurn.{IsHanded, all_ship, all_taken, front_bytes, leaves_still, stops_at_one, takes_one}
use Rattle.corr_top.proofs.following.take_packets.Goals as goal

pub returns-in-Err-clause-gives : goal.returns-in-Err-clause-gives
returns-in-Err-clause-gives g c = λ packets are.
    let d = g.D.Disk in
    let last = c.loop-after.follower in
    let next = c.take.new.self in
    let e = c.in-Err.ensures in
    let p : Packet = record { number = c.in-Some.field-0-0; body = c.in-Some.field-0-1.now } in
    let begins = c.in-Some.ensures.found in
    let piece = front_bytes p c.loop-after.rest.now c.in-Some.after.now begins.is in
    let handed : IsHanded d c.args.follower.now.disk last.disk next.disk last.held c.loop-after.rest.now c.in-Some.after.now p = record {
      begins = begins;
      honest = c.loop-after.invariant.honest;
      moments = λ told. subst (λ (l : List ℕ). LeavesOnly d.moment d.left_since last.disk next.disk (IsBeforeOrTaken last.held l)) piece (e.any_moment c.loop-after.invariant.whole told);
    } in
    let shows = subst (λ (l : List ℕ). TakeShows last.held last.broken last.at_open (d.faults last.disk) (d.faults next.disk) l next.held (Err c.in-Err.fault)) piece e.shows in
    stops_at_one d c.args.follower.now.disk last.disk next.disk c.args.follower.now.held last.held c.args.file.now c.loop-after.rest.now c.in-Some.after.now p c.loop-after.invariant.taking handed
    next.held last.at_open c.in-Err.fault c.entries.result packets are
    (subst (λ (b : Bool). TakeShows last.held b last.at_open (d.faults last.disk) (d.faults next.disk) (packet_bytes p) next.held (Err c.in-Err.fault)) c.loop-after.invariant.whole shows)
    c.entries.ensures (λ fine told. ap (λ (f : Following g.row.D.Denot). f.disk) (e.untouched (leaves_still c.in-Err.fault fine) told)) e.honest

pub loop-after-preserved : goal.loop-after-preserved
loop-after-preserved g c =
    let d = g.D.Disk in
    let last = c.loop-after.follower in
    let next = c.take.new.self in
    let e = c.in_default-take.ensures in
    let took = c.in_default-take.field-0 in
    let p : Packet = record { number = c.in-Some.field-0-0; body = c.in-Some.field-0-1.now } in
    let begins = c.in-Some.ensures.found in
    let piece = front_bytes p c.loop-after.rest.now c.in-Some.after.now begins.is in
    let handed : IsHanded d c.args.follower.now.disk last.disk next.disk last.held c.loop-after.rest.now c.in-Some.after.now p = record {
      begins = begins;
      honest = c.loop-after.invariant.honest;
      moments = λ told. subst (λ (l : List ℕ). LeavesOnly d.moment d.left_since last.disk next.disk (IsBeforeOrTaken last.held l)) piece (e.any_moment c.loop-after.invariant.whole told);
    } in
    let shows = subst (λ (l : List ℕ). TakeShows last.held last.broken last.at_open (d.faults last.disk) (d.faults next.disk) l next.held (Ok took)) piece e.shows in
    record {
      whole = e.broken ∙ c.loop-after.invariant.whole;
      taking = takes_one d c.args.follower.now.disk last.disk next.disk c.args.follower.now.held last.held c.args.file.now c.loop-after.rest.now c.in-Some.after.now p c.loop-after.invariant.taking handed
          next.held last.at_open took
          (subst (λ (b : Bool). TakeShows last.held b last.at_open (d.faults last.disk) (d.faults next.disk) (packet_bytes p) next.held (Ok took)) c.loop-after.invariant.whole shows)
          (subst (λ (l : List ℕ). Ships last.held l next.held) piece e.ships) e.good e.durable;
      honest = e.honest ∙ c.loop-after.invariant.honest;
    }

pub returns-clause-gives : goal.returns-clause-gives
returns-clause-gives g c = λ packets are.
    all_taken g.D.Disk c.args.follower.now.disk c.loop-after.follower.disk c.args.follower.now.held c.loop-after.follower.held c.args.file.now c.loop-after.rest.now packets c.loop-after.invariant.taking
    c.in_default.ensures.none are

pub returns-clause-ships : goal.returns-clause-ships
returns-clause-ships g c = λ packets are.
    all_ship g.D.Disk c.args.follower.now.disk c.loop-after.follower.disk c.args.follower.now.held c.loop-after.follower.held c.args.file.now c.loop-after.rest.now packets c.loop-after.invariant.taking
    c.in_default.ensures.none are
