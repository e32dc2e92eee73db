use Rattle.std.proofs.Common.{◌∙◌, Err, refl, subst, sym}
use Rattle.corr_top.specs.Commands.{meaning_of}
use Rattle.corr_top.specs.inner.Ends.{HasTexts}
use Rattle.corr_top.specs.declared.status.Status.{Status}
use Rattle.corr_top.specs.declared.words.Command.TheVariants.{Run}
use Rattle.corr_top.proofs.Journals.{same_unwritten}
use Rattle.corr_top.proofs.RunEnds.{books_stop, day_ends, day_honest, tables_stop}
use Rattle.corr_top.proofs.run.run.Goals as goal

pub returns-in-Err-clause-texts : goal.returns-in-Err-clause-texts
returns-in-Err-clause-texts g c =
    let new = record c.args.room { tables = c.read_directory.new.files } in
    subst (λ (s : Status). HasTexts g.S.Source g.D.Disk (meaning_of (Run c.args.day c.args.workers c.args.entries)) c.args.room new (Err s)) (sym c.from.ensures)
    (tables_stop g.S.Source g.D.Disk c.args.day c.args.workers c.args.entries c.args.room new (record { accounts = c.in-Err.ensures.stopped.accounts; received = refl; sent = refl; disk2 = refl; report = refl; out = refl }) c.in-Err.stop c.in-Err.ensures.stopped refl refl
    (same_unwritten g.D.Disk (g.met.D.Disk g.world.𝓛 g.world.𝓜 g.world.𝓡 ((λ s x. x), (λ x. x), (λ x. x), λ x. x)).only_now c.args.room.disk c.args.room.disk refl))

pub returns-in-Err-open_books-clause-texts : goal.returns-in-Err-open_books-clause-texts
returns-in-Err-open_books-clause-texts g c =
    let has = c.in-Ok.ensures.fine in
    let e = c.in-Err-open_books.ensures in
    let new = record c.args.room { tables = c.read_directory.new.files; disk = c.in-Err-open_books.disk } in
    subst (λ (s : Status). HasTexts g.S.Source g.D.Disk (meaning_of (Run c.args.day c.args.workers c.args.entries)) c.args.room new (Err s)) (sym c.from-in-Err-open_books.ensures)
    (books_stop g.S.Source g.D.Disk c.args.day c.args.workers c.args.entries c.args.room new (record { accounts = has.accounts; received = refl; sent = refl; disk2 = refl; report = refl; out = refl }) c.in-Ok.directory has
    c.in-Err-open_books.fault e.cause e.told e.back e.untouched refl)

pub returns-clause-texts : goal.returns-clause-texts
returns-clause-texts g c =
    let has = c.in-Ok.ensures.fine in
    let opened = c.in-Ok-open_books.opened in
    let e = c.in-Ok-open_books.ensures in
    let new = record c.args.room { tables = c.read_directory.new.files; messages = c.run_day-source.result.0; disk = c.run_day-source.result.1 } in
    day_ends g.S.Source g.D.Disk c.args.day c.args.workers c.args.entries c.args.room new (record { accounts = has.accounts; received = refl; sent = refl; disk2 = refl; report = refl; out = refl }) c.in-Ok.directory has
    opened e.journal e.told e.latest e.opened.1 e.kept e.honest e.opened.0 e.untouched c.run_day-source.result.2 c.run_day-source.ensures

pub returns-clause-honest : goal.returns-clause-honest
returns-clause-honest g c =
    let opened = c.in-Ok-open_books.opened in
    day_honest g.S.Source g.D.Disk c.in-Ok.directory c.args.workers c.args.entries c.args.room.messages c.run_day-source.result.0 opened c.run_day-source.result.1 c.run_day-source.result.2 c.run_day-source.ensures ∙ c.in-Ok-open_books.ensures.honest
