use Rattle.std.proofs.Common.{Err, refl, subst, sym}
use Rattle.corr_top.specs.Commands.{meaning_of}
use Rattle.corr_top.specs.inner.Ends.{HasTexts}
use Rattle.corr_top.specs.declared.status.Status.{Status}
use Rattle.corr_top.specs.declared.words.Command.TheVariants.{Plain as PlainCommand}
use Rattle.corr_top.specs.declared.words.Plain.TheVariants.{Check}
use Rattle.corr_top.proofs.Judging.{known_stop, verdict_texts}
use Rattle.corr_top.proofs.checking.check.Goals as goal

pub returns-in-Err-clause-texts : goal.returns-in-Err-clause-texts
returns-in-Err-clause-texts g c =
    let new = record c.args.room { tables = c.read_known.new.files } in
    let stopped = c.in-Err.ensures.stopped in
    subst (λ (s : Status). HasTexts g.S.Source g.D.Disk (meaning_of (PlainCommand (Check c.args.home.now))) c.args.room new (Err s)) (sym c.from.ensures)
    (known_stop g.S.Source g.D.Disk c.args.home.now c.args.room new (record { received = refl; sent = refl; disk = refl; disk2 = refl; report = refl; out = refl }) stopped.accounts stopped.ssi stopped.charges c.in-Err.stop stopped refl)

pub returns-clause-texts : goal.returns-clause-texts
returns-clause-texts g c =
    let has = c.in-Ok.ensures.fine in
    let new = record c.args.room { tables = c.read_known.new.files; messages = c.tell_verdicts-texts.new.source } in
    verdict_texts g.S.Source g.D.Disk c.args.home.now c.args.room new (record { received = refl; sent = refl; disk = refl; disk2 = refl; report = refl; out = refl }) has.accounts has.ssi has.charges
    c.in-Ok.tables has c.tell_verdicts-texts.result c.tell_verdicts-texts.ensures
