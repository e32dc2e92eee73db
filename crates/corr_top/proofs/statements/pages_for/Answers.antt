use Rattle.std.proofs.Common.{◌≡◌, IfOk, OnOk, sym, subst}
use Rattle.std.proofs.lemmas.Result.{IfOk-weaker, on_ok_weaker}
use Rattle.statement.specs.Pages.{pages_of}
use Rattle.statement.specs.Seen.{SeenBook}
use Rattle.statement.specs.Valid.{Prints}
use Rattle.corr_top.specs.declared.owners.Owners.{Owners}
use Rattle.corr_top.specs.Statements.{IsStatementOfDay, owner_pages}
use Rattle.corr_top.proofs.statements.pages_for.Goals as goal

pub returns-in-Banks-clause-value : goal.returns-in-Banks-clause-value
returns-in-Banks-clause-value c =
    let chart = c.args.a.now in
    let entries = c.args.h.now.entries in
    let n = c.args.n.0 in
    let day = c.args.day in
    let book : SeenBook = record { chart = chart; entries = entries } in
    subst (λ (o : Owners). IfOk c.pages_with.result (λ texts. texts ≡ owner_pages o chart entries n day)) (sym c.in-Banks.is)
    (IfOk-weaker c.pages_with.result (λ texts. (b : SeenBook) → Prints c.args.ix.now n day b → texts ≡ pages_of b.chart b.entries n day) (λ texts. texts ≡ pages_of chart entries n day)
    (λ texts all. all book c.requires) c.pages_with.ensures.value)

pub returns-in-Banks-clause-valid : goal.returns-in-Banks-clause-valid
returns-in-Banks-clause-valid c =
    let chart = c.args.a.now in
    let entries = c.args.h.now.entries in
    let book : SeenBook = record { chart = chart; entries = entries } in
    subst (λ (o : Owners). OnOk c.pages_with.result (IsStatementOfDay o chart entries c.args.day c.args.n.0)) (sym c.in-Banks.is)
    (on_ok_weaker c.pages_with.result (λ accepted. record { closes = c.pages_with.ensures.closes book c.requires; read = accepted book c.requires }) c.pages_with.ensures.accepted)
