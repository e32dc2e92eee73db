use Rattle.std.proofs.Common.{Err, refl, subst, sym}
use Rattle.corr_top.specs.Commands.{meaning_of}
use Rattle.corr_top.specs.inner.Ends.{HasTexts}
use Rattle.corr_top.specs.declared.status.Status.{Status}
use Rattle.corr_top.specs.declared.words.Command.TheVariants.{Plain as PlainCommand}
use Rattle.corr_top.specs.declared.words.Plain.TheVariants.{Page}
use Rattle.corr_top.proofs.PageEnds.{page_ends, tables_stop}
use Rattle.corr_top.proofs.paging.page.Goals as goal

pub returns-in-Err-clause-texts : goal.returns-in-Err-clause-texts
returns-in-Err-clause-texts g c =
    let new = record c.args.room { tables = c.read_directory.new.files } in
    let stopped = c.in-Err.ensures.stopped in
    subst (λ (s : Status). HasTexts g.S.Source g.D.Disk (meaning_of (PlainCommand (Page c.args.day))) c.args.room new (Err s)) (sym c.from.ensures)
    (tables_stop g.S.Source g.D.Disk c.args.day c.args.room new (record { accounts = stopped.accounts; received = refl; sent = refl; disk2 = refl; report = refl; out = refl }) c.in-Err.stop stopped refl refl)

pub returns-clause-texts : goal.returns-clause-texts
returns-clause-texts g c =
    let has = c.in-Ok.ensures.fine in
    let new = record c.args.room { tables = c.read_directory.new.files; messages = c.show_file-disk.new.source; disk = c.show_file-disk.result.0 } in
    page_ends g.S.Source g.D.Disk c.args.day c.args.room new (record { accounts = has.accounts; received = refl; sent = refl; disk2 = refl; report = refl; out = refl }) c.in-Ok.directory has
    c.show_file-disk.result.1 c.show_file-disk.ensures.gives
