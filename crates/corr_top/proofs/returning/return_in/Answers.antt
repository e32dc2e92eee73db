use Rattle.std.proofs.Common.{All, List, inl, subst, sym}
use Rattle.std.proofs.lemmas.List.Elements.{All-weaker}
use Rattle.day_model.specs.Chart.{Chart}
use Rattle.day_model.specs.declared.entry.Entry.{Entry}
use Rattle.jrn_codec.specs.Record.{IsEntry}
use Rattle.pay_returns.specs.Making.{MayReturn, TellsReturnFault}
use Rattle.corr_top.specs.inner.Serving.{HasPayShape}
use Rattle.corr_top.proofs.BookedPay.{gives_returned}
use Rattle.corr_top.proofs.returning.return_in.Goals as goal

pub return_pay-requires-clause-shaped : goal.return_pay-requires-clause-shaped
return_pay-requires-clause-shaped g c =
    subst (λ (es : List Entry). All HasPayShape es) (sym c.history.ensures) (All-weaker IsEntry HasPayShape (λ e is. is.pay) c.args.opened.base c.requires.journal.entries)

-- no return was made
pub returns-in-Err : goal.returns-in-Err
returns-in-Err g c =
    let fault = c.in-Err.fault in
    let told = subst (λ (x : Chart × List Entry). TellsReturnFault x.0 x.1 c.args.place c.args.day fault) (λ k. (c.accounts.ensures k, c.history.ensures k)) c.in-Err.ensures.fault in
    inl (fault, c.from.ensures, told, c.into_disk.ensures)

pub returns : goal.returns
returns g c =
    let pay = c.in-Ok.pay in
    let may = subst (λ (x : Chart × List Entry). MayReturn x.0 x.1 c.args.place c.args.day pay) (λ k. (c.accounts.ensures k, c.history.ensures k)) c.in-Ok.ensures.value in
    gives_returned g.D.Disk c.args.opened c.book_new.result.0 c.args.place c.args.day pay may c.book_new.result.1 c.book_new.ensures
