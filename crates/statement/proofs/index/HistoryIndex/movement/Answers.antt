use Rattle.std.proofs.Common.{◌≡◌, sym, subst, to_z, of_z, w64}
use Rattle.std.proofs.lemmas.Int.{to_z-of_z}
use Rattle.day_model.specs.Chart.{IsSmall}
use Rattle.statement.proofs.Adding.{balance-small, kept, kept-balance-of, listed-too, moves-by}
use Rattle.statement.proofs.index.HistoryIndex.movement.Goals as goal

pub balance_with-requires-clause-balance : goal.balance_with-requires-clause-balance
balance_with-requires-clause-balance c =
    let book = c.requires.next.0 in
    let next = c.requires.next.1 in
    let listed = c.requires.next.2 in
    let n = c.args.leg.now.account.0 in
    subst IsSmall (sym (kept-balance-of book n c.ledger.result.now (kept c.args.self.now book n c.ledger.result.now next.is listed c.ledger.ensures))) (balance-small c.args.self.now book n next.is listed)

pub returns-clause-value : goal.returns-clause-value
returns-clause-value c = λ book next.
    let index = c.args.self.now in
    let listed = listed-too index c.requires.next.0 book c.args.leg.now.account.0 c.requires.next.1.is next.is c.requires.next.2 in
    let held : to_z w64 (of_z w64 c.balance_with.result) ≡ c.balance_with.result = to_z-of_z w64 c.balance_with.result (record { sfits = c.balance_with.type_inv }) in
    rw held (moves-by index c.args.e.now c.args.leg.now book c.ledger.result.now next listed c.requires.only c.ledger.ensures c.in_ok-quote_text.field-0 (c.in_ok-quote_text.ensures.value) c.args.returned (c.requires.returned book next) c.balance_with.result c.balance_with.ensures)
