use Rattle.std.proofs.Common.{◌≡◌, ◌∙◌, to_z, of_z, w64}
use Rattle.std.proofs.lemmas.Int.{to_z-of_z}
use Rattle.statement.proofs.Adding.{kept, kept-before, kept-rise}
use Rattle.statement.proofs.index.HistoryIndex.balance_before.Goals as goal

pub balance_before-requires : goal.balance_before-requires
balance_before-requires c =
    let index = c.args.self.now in
    let book = c.requires.0 in
    let has = c.requires.1 in
    let ledger = c.ledger.result.now in
    kept-rise index book c.args.n.0 ledger has.is (kept index book c.args.n.0 ledger has.is has.listed c.ledger.ensures)

pub returns : goal.returns
returns c = λ book has.
    let index = c.args.self.now in
    let ledger = c.ledger.result.now in
    let held : to_z w64 (of_z w64 c.balance_before.result) ≡ c.balance_before.result = to_z-of_z w64 c.balance_before.result (record { sfits = c.balance_before.type_inv }) in
    held ∙ c.balance_before.ensures ∙ kept-before index book c.args.n.0 ledger c.args.day has.is (kept index book c.args.n.0 ledger has.is has.listed c.ledger.ensures)
