use Rattle.std.proofs.Common.{Err, refl, subst, sym}
use Rattle.corr_top.specs.Commands.{meaning_of}
use Rattle.corr_top.specs.inner.Ends.{HasTexts}
use Rattle.corr_top.specs.Followed.{StopsBeginning}
use Rattle.corr_top.specs.declared.status.Status.{Status}
use Rattle.corr_top.specs.declared.words.Command.TheVariants.{Plain as PlainCommand}
use Rattle.corr_top.specs.declared.words.Plain.TheVariants.{Follow}
use Rattle.corr_top.proofs.FollowEnds.{begin_stop, follow_texts, followed_since}
use Rattle.corr_top.proofs.following.follow.Goals as goal

pub returns-in-Err-clause-texts : goal.returns-in-Err-clause-texts
returns-in-Err-clause-texts g c =
    let stop = c.in-Err in
    let new = record c.args.room { disk = stop.disk } in
    let told : StopsBeginning g.D.Disk c.args.room.disk stop.disk stop.fault = record { cause = stop.ensures.cause; told = stop.ensures.refused; unmade = stop.ensures.unmade; untouched = stop.ensures.untouched } in
    subst (λ (s : Status). HasTexts g.S.Source g.D.Disk (meaning_of (PlainCommand Follow)) c.args.room new (Err s)) (sym c.from.ensures)
    (begin_stop g.S.Source g.D.Disk c.args.room new (record { tables = refl; messages = refl; sent = refl; disk2 = refl; report = refl; out = refl }) stop.fault told refl)

pub returns-clause-texts : goal.returns-clause-texts
returns-clause-texts g c =
    let begun = c.in-Ok.follower in
    let has = c.in-Ok.ensures in
    let new = record c.args.room { received = c.tell_taken-texts.new.source; disk = c.into_disk.result } in
    let gives = followed_since g.D.Disk c.args.room.disk begun.disk begun.held has.untouched has.fresh.2 has.honest has.durable g.S.Source c.args.room.received new.received new.disk c.tell_taken-texts.result
    (rw (c.into_disk.ensures.disk) c.tell_taken-texts.ensures.gives) in
    follow_texts g.S.Source g.D.Disk c.args.room new (record { tables = refl; messages = refl; sent = refl; disk2 = refl; report = refl; out = refl }) begun.held c.tell_taken-texts.result
    (record { good = has.good; told = has.told }) gives
