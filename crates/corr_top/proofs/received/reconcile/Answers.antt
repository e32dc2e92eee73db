use Rattle.std.proofs.Common.{Err, refl, subst, sym}
use Rattle.corr_top.specs.Commands.{meaning_of}
use Rattle.corr_top.specs.inner.Ends.{HasTexts}
use Rattle.corr_top.specs.declared.status.Status.{Status}
use Rattle.corr_top.specs.declared.words.Command.TheVariants.{Plain as PlainCommand}
use Rattle.corr_top.specs.declared.words.Plain.TheVariants.{Reconcile}
use Rattle.corr_top.proofs.Reconciling.{closed_texts, journal_stop, known_stop}
use Rattle.corr_top.proofs.received.reconcile.Goals as goal

pub returns-in-Err-clause-texts : goal.returns-in-Err-clause-texts
returns-in-Err-clause-texts g c =
    let new = record c.args.room { tables = c.read_known.new.files } in
    let stopped = c.in-Err.ensures.stopped in
    subst (λ (s : Status). HasTexts g.S.Source g.D.Disk (meaning_of (PlainCommand Reconcile)) c.args.room new (Err s)) (sym c.from.ensures)
    (known_stop g.S.Source g.D.Disk c.args.room new (record { messages = refl; sent = refl; disk2 = refl; report = refl; out = refl }) stopped.accounts stopped.ssi stopped.charges c.in-Err.stop stopped refl refl)

pub returns-in-Err-open_journal-clause-texts : goal.returns-in-Err-open_journal-clause-texts
returns-in-Err-open_journal-clause-texts g c =
    let has = c.in-Ok.ensures.fine in
    let stop = c.in-Err-open_journal in
    let new = record c.args.room { tables = c.read_known.new.files; disk = stop.disk } in
    subst (λ (s : Status). HasTexts g.S.Source g.D.Disk (meaning_of (PlainCommand Reconcile)) c.args.room new (Err s)) (sym c.from-in-Err-open_journal.ensures)
    (journal_stop g.S.Source g.D.Disk c.args.room new (record { messages = refl; sent = refl; disk2 = refl; report = refl; out = refl }) has.accounts has.ssi has.charges c.in-Ok.tables has stop.fault stop.ensures.stopped refl)

pub returns-clause-texts : goal.returns-clause-texts
returns-clause-texts g c =
    let has = c.in-Ok.ensures.fine in
    let opened = c.in-Ok-open_journal.opened in
    let new = record c.args.room { tables = c.read_known.new.files; received = c.tell_breaks-texts.new.source; disk = c.close_journal.result } in
    closed_texts g.S.Source g.D.Disk c.args.room new (record { messages = refl; sent = refl; disk2 = refl; report = refl; out = refl }) has.accounts has.ssi has.charges c.in-Ok.tables has opened.0 opened.1
    c.accounts.result.now c.history.result.now.entries c.tell_breaks-texts.result c.in-Ok-open_journal.ensures.opened c.close_journal.ensures.disk c.accounts.ensures.value c.history.ensures.value c.tell_breaks-texts.ensures
