use Rattle.std.proofs.Common.{◌≡◌, ◌&&◌, Bool, not, cond, ◌∷◌, [], ◌++◌, Some, None, ◌∙◌, ap, refl, subst, sym}
use Rattle.day_model.specs.Balance.{is_booked}
use Rattle.pay_returns.specs.Opposite.{origin_of}
use Rattle.statement.specs.Index.{AreLedgersOf, TakesNext, payment_of}
use Rattle.statement.specs.declared.index.HistoryIndex.{HistoryIndex}
use Rattle.statement.proofs.Adding.{counted-index, ledgers-same, quotes-none, same-index}
use Rattle.statement.proofs.index.HistoryIndex.add.Goals.{in-Booked+in_ok-book-in-Booked, in-Unfunded}
use Rattle.statement.proofs.index.HistoryIndex.add.Goals as goal

pub returns-clause-ok : goal.returns-clause-ok
returns-clause-ok c = λ book next.
    let index = c.args.self.now in
    let entry = c.args.e.now in
    let reserved : HistoryIndex = record index { payments = c.reserve.new.self } in
    let still : TakesNext reserved entry book = record { is = same-index index reserved book next.is refl refl c.reserve.ensures.items refl; legal = next.legal } in
    let payment : c.in_ok-payment.payment ≡ payment_of book.chart book.entries entry =
    c.in_ok-payment.ensures ∙ ap (λ (b : Bool). cond (is_booked entry.outcome && not b) (Some (origin_of entry)) None) (c.takes_back-returned.ensures book next) in
    elim c.match-e.branch [
      | in-Booked+in_ok-book-in-Booked w ↦
          counted-index index c.match-e.self c.push_reserved.new.self entry book next
          (ap (λ (ix : HistoryIndex). ix.home) w.self-is ∙ w.book.ensures.home)
          (ap (λ (ix : HistoryIndex). ix.entries) w.self-is ∙ w.book.ensures.count)
          (c.push_reserved.ensures.items
          ∙ (λ i. (ap (λ (ix : HistoryIndex). ix.payments.items) w.self-is ∙ ap (λ v. v.items) w.book.ensures.payments ∙ c.reserve.ensures.items) i ++ payment i ∷ []))
          (subst (λ (ix : HistoryIndex). AreLedgersOf ix.ledgers.items book.chart (book.entries ++ entry ∷ [])) (sym w.self-is) (w.in_ok-book-in-Booked.ensures.ok book still))
          w.in_ok-book-in-Booked.ensures.quotes
      | in-Unfunded w ↦
          let unbooked = ap is_booked w.in-Unfunded.is in
          counted-index index c.match-e.self c.push_reserved.new.self entry book next
          (ap (λ (ix : HistoryIndex). ix.home) w.self-is)
          (ap (λ (ix : HistoryIndex). ix.entries) w.self-is)
          (c.push_reserved.ensures.items ∙ (λ i. (ap (λ (ix : HistoryIndex). ix.payments.items) w.self-is ∙ c.reserve.ensures.items) i ++ payment i ∷ []))
          (subst (λ (ix : HistoryIndex). AreLedgersOf ix.ledgers.items book.chart (book.entries ++ entry ∷ [])) (sym w.self-is) (ledgers-same book.chart book.entries entry index.ledgers.items next.is.ledgers unbooked))
          (quotes-none entry unbooked)
    ]
