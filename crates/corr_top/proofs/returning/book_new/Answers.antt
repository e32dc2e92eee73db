use Rattle.std.proofs.Common.{inl, subst, sym}
use Rattle.corr_top.specs.inner.Returning.{GivesBooked}
use Rattle.corr_top.proofs.BookedPay.{gives_booked, some_entry}
use Rattle.corr_top.proofs.returning.book_new.Goals as goal

pub texts_of-texts-requires-clause-some : goal.texts_of-texts-requires-clause-some
texts_of-texts-requires-clause-some g c =
    some_entry g.D.Disk c.args.opened c.args.pay.now c.in-Ok.entered c.args.before c.requires.count c.requires.new c.requires.funded c.in-Ok.ensures.entered

-- there was no memory for the books
pub returns-in-Err : goal.returns-in-Err
returns-in-Err g c = inl (c.from.ensures, c.in-Err.ensures.disk)

pub returns : goal.returns
returns g c =
    let opened = c.args.opened in
    let pay = c.args.pay.now in
    subst (λ (x : g.row.D.Denot). GivesBooked g.D.Disk opened x pay c.texts_of-texts.result) (sym c.into_disk.ensures)
    (gives_booked g.D.Disk opened pay c.in-Ok.entered c.args.before c.requires.count c.requires.new c.requires.funded c.in-Ok.ensures.entered c.texts_of-texts.result c.texts_of-texts.ensures)
