use Rattle.std.proofs.Common.{[], map, refl, ap, ◌∙◌}
use Rattle.statement.specs.inner.Index.{on_day}
use Rattle.statement.specs.Running.{placed_by}
use Rattle.statement.specs.declared.ledger.Ledger.{Ledger}
use Rattle.statement.proofs.Adding.{kept, kept-rise}
use Rattle.statement.proofs.Running.{lines-are}
use Rattle.statement.proofs.index.HistoryIndex.booked_on.Goals as goal

pub on-requires-clause-rise : goal.on-requires-clause-rise
on-requires-clause-rise c =
    let index = c.args.self.now in
    let book = c.requires.account.0 in
    let has = c.requires.account.1 in
    let ledger = c.ledger.result.now in
    kept-rise index book c.args.n.0 ledger has.is (kept index book c.args.n.0 ledger has.is has.listed c.ledger.ensures)

pub returns : goal.returns
returns c = λ book has.
    let index = c.args.self.now in
    let n = c.args.n.0 in
    let k = kept index book n c.ledger.result.now has.is has.listed c.ledger.ensures in
    ap (map placed_by) (c.on.ensures ∙ ap (λ (l : Ledger). on_day c.args.day l.movements) k.same)
    ∙ lines-are book.chart n c.args.day book.entries [] book.entries refl
