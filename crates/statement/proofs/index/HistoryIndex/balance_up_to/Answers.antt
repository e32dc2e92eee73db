use Rattle.std.proofs.Common.{◌≡◌, List, ◌+ℤ◌, pos, ap, ◌∙◌, to_z, of_z, w64}
use Rattle.std.proofs.lemmas.Int.{to_z-of_z}
use Rattle.corr_ids.specs.declared.day.Day.{Day}
use Rattle.day_model.specs.Balance.{balance_of}
use Rattle.day_model.specs.declared.entry.Entry.{Entry}
use Rattle.statement.specs.inner.Index.{balance_at}
use Rattle.statement.proofs.Adding.{kept, kept-before, kept-rise}
use Rattle.statement.proofs.Days.{up-to-before}
use Rattle.statement.proofs.index.HistoryIndex.balance_up_to.Goals as goal

pub balance_before-requires : goal.balance_before-requires
balance_before-requires c =
    let index = c.args.self.now in
    let book = c.requires.account.0 in
    let has = c.requires.account.1 in
    let ledger = c.ledger.result.now in
    kept-rise index book c.args.n.0 ledger has.is (kept index book c.args.n.0 ledger has.is has.listed c.ledger.ensures)

pub returns : goal.returns
returns c = λ book has.
    let index = c.args.self.now in
    let ledger = c.ledger.result.now in
    let next : Day = record { 0 = c.args.day.0 +ℤ pos 1 } in
    let held : to_z w64 (of_z w64 c.balance_before.result) ≡ c.balance_before.result = to_z-of_z w64 c.balance_before.result (record { sfits = c.balance_before.type_inv }) in
    held ∙ c.balance_before.ensures ∙ ap (balance_at ledger) c.day_after.ensures
    ∙ kept-before index book c.args.n.0 ledger next has.is (kept index book c.args.n.0 ledger has.is has.listed c.ledger.ensures)
    ∙ ap (λ (es : List Entry). balance_of book.chart es c.args.n.0) (up-to-before c.args.day book.entries)
