use Rattle.jrn_book.specs.Opening.{found_by}
use Rattle.jrn_file.specs.Reading.{opened_of}
use Rattle.corr_books.proofs.Opens.{journal_in, latest_in, shows_back, tells, tells_refused}
use Rattle.corr_books.proofs.opening.open_books.Goals as goal

pub returns-in-Ok-clause-told : goal.returns-in-Ok-clause-told
returns-in-Ok-clause-told g c =
    let begun = c.begin_books.ensures in
    λ honest. tells c.in-Ok.book c.args.day (opened_of (g.D.Disk.reads c.args.disk)) c.begin_books.result begun.parts begun.latest begun.disk (c.in-Ok.ensures.told honest)

pub returns-in-Err-clause-told : goal.returns-in-Err-clause-told
returns-in-Err-clause-told g c = λ honest. tells_refused (opened_of (g.D.Disk.reads c.args.disk)) (found_by c.in-Err.fault) (c.in-Err.ensures.told honest)

pub returns-in-Ok-clause-latest : goal.returns-in-Ok-clause-latest
returns-in-Ok-clause-latest g c =
    let begun = c.begin_books.ensures in
    latest_in c.in-Ok.book c.args.day c.begin_books.result begun.parts begun.latest

pub returns-in-Ok-clause-journal : goal.returns-in-Ok-clause-journal
returns-in-Ok-clause-journal g c = journal_in c.in-Ok.book c.args.day c.begin_books.result c.begin_books.ensures.parts c.in-Ok.ensures.opened.journal

pub returns-in-Ok-clause-back : goal.returns-in-Ok-clause-back
returns-in-Ok-clause-back g c =
    shows_back c.in-Ok.book c.args.day (opened_of (g.D.Disk.reads c.args.disk)) (g.D.Disk.honest c.args.disk) c.begin_books.result c.begin_books.ensures.disk c.in-Ok.ensures.opened.journal c.in-Ok.ensures.told
