use Rattle.std.proofs.Common.{Err, refl, subst, sym}
use Rattle.corr_top.specs.Commands.{meaning_of}
use Rattle.corr_top.specs.inner.Ends.{HasTexts}
use Rattle.corr_top.specs.declared.status.Status.{Status}
use Rattle.corr_top.specs.declared.words.Command.TheVariants.{Plain as PlainCommand}
use Rattle.corr_top.specs.declared.words.Plain.TheVariants.{Mend}
use Rattle.corr_top.proofs.MendedFile.{closed_texts, journal_stop}
use Rattle.corr_top.proofs.mending.mend.Goals as goal

pub returns-in-Err-clause-texts : goal.returns-in-Err-clause-texts
returns-in-Err-clause-texts g c =
    let stop = c.in-Err in
    let new = record c.args.room { disk = stop.disk } in
    subst (λ (s : Status). HasTexts g.S.Source g.D.Disk (meaning_of (PlainCommand (Mend c.args.from c.args.until))) c.args.room new (Err s)) (sym c.from.ensures)
    (journal_stop g.S.Source g.D.Disk c.args.from c.args.until c.args.room new (record { tables = refl; messages = refl; received = refl; disk2 = refl; report = refl; out = refl }) stop.fault stop.ensures.stopped refl)

pub returns-clause-texts : goal.returns-clause-texts
returns-clause-texts g c =
    let opened = c.in-Ok.opened in
    let new = record c.args.room { sent = c.tell_mended-texts.new.source; disk = c.close_journal.result } in
    closed_texts g.S.Source g.D.Disk c.args.from c.args.until c.args.room new (record { tables = refl; messages = refl; received = refl; disk2 = refl; report = refl; out = refl }) opened.0 opened.1
    c.accounts.result.now c.history.result.now.entries c.tell_mended-texts.result c.in-Ok.ensures.opened c.close_journal.ensures.disk c.accounts.ensures.value c.history.ensures.value c.tell_mended-texts.ensures
