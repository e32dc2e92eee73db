use Rattle.corr_top.proofs.Journals.{opened, unopened}
use Rattle.corr_top.proofs.opening.open_journal.Goals as goal

pub returns-clause-opened : goal.returns-clause-opened
returns-clause-opened g c =
    let e = c.open_book.ensures in
    opened g.D.Disk c.args.disk c.open_book.result e.opened e.purses e.told e.untouched e.kept

pub returns-clause-stopped : goal.returns-clause-stopped
returns-clause-stopped g c =
    let e = c.open_book.ensures in
    unopened g.D.Disk c.args.disk c.open_book.result e.cause e.told e.untouched
