use Rattle.std.proofs.Common.{◌∷◌, [], ◌++◌, List, sym, ap, ◌∙◌, subst}
use Rattle.std.specs.Prelude.{All, length}
use Rattle.std.proofs.lemmas.Result.{on_ok_weaker}
use Rattle.statement.specs.Index.{AreLedgersOf}
use Rattle.statement.specs.inner.Index.{IsOnOneOf, pushed_each}
use Rattle.statement.specs.declared.ledger.Booking.{Booking}
use Rattle.statement.specs.declared.ledger.Ledger.{Ledger}
use Rattle.statement.proofs.Adding.{next-fit}
use Rattle.statement.proofs.Pushing.{all-on-accounts, ledgers-more}
use Rattle.statement.proofs.index.HistoryIndex.book.Goals as goal

pub push_each-requires : goal.push_each-requires
push_each-requires c =
    let index = c.args.self.now in
    let entry = c.args.e.now in
    let book = c.requires.next.0 in
    let next = c.requires.next.1 in
    let P : List Booking → Type 0 = All (IsOnOneOf (length index.ledgers.items)) in
    subst P (sym (c.in_ok-bookings.ensures.value book next))
    (all-on-accounts book.chart book.entries entry (length index.ledgers.items) (sym next.is.ledgers.size) (next-fit index entry book next))

pub returns-clause-ok : goal.returns-clause-ok
returns-clause-ok c =
    let index = c.args.self.now in
    let entry = c.args.e.now in
    on_ok_weaker c.push_each.result
    (λ made book next.
    subst (λ (ls : List Ledger). AreLedgersOf ls book.chart (book.entries ++ entry ∷ []))
    (sym (made ∙ ap (λ (bookings : List Booking). pushed_each bookings index.ledgers.items) (c.in_ok-bookings.ensures.value book next)))
    (ledgers-more book.chart book.entries entry index.ledgers.items next.is.ledgers c.requires.booked (next-fit index entry book next)))
    c.push_each.ensures.ok

pub returns-clause-quotes : goal.returns-clause-quotes
returns-clause-quotes c = on_ok_weaker c.push_each.result (λ _. c.in_ok-bookings.ensures.quotes) c.push_each.ensures.ok
