-- Whether the next entry takes a payment back, by what an index keeps.
use Rattle.std.proofs.Common.{◌≡◌, ℕ, ◌-◌, ◌<◌, ◌≤◌, false, List, length, Option, Some, None, get_or, sym, ap, ◌∙◌, subst, arith, inl, inr}
use Rattle.std.specs.Prelude.{◌⊎◌, All, slice_get}
use Rattle.std.proofs.lemmas.Option.{slice_get-get_or, slice_get_cases, slice_get_read}
use Rattle.day_model.specs.declared.entry.Entry.{Entry}
use Rattle.day_model.specs.declared.pay.Leg.{Leg}
use Rattle.pay_returns.specs.Equal.{is_equal}
use Rattle.pay_returns.specs.Opposite.{opposite_pay}
use Rattle.pay_returns.specs.Returns.{named_place}
use Rattle.pay_returns.specs.declared.origin.Origin.{Origin}
use Rattle.statement.specs.Index.{TakesNext, is_next_return, payments_of}
use Rattle.statement.specs.inner.Index.{IsOnAccount}
use Rattle.statement.specs.Seen.{SeenBook}
use Rattle.statement.specs.declared.index.HistoryIndex.{HistoryIndex}
use Rattle.statement.proofs.Adding.{next-fit}
use Rattle.statement.proofs.Payments.{payments-length, takes-none, takes-out, takes-some}

entry-there : (entries : List Entry) (i : ℕ) → i < length entries → (entry : Entry) × (slice_get entries i ≡ Some entry)
entry-there entries i lt =
    elim (slice_get_cases entries i).1 [
      | inl found ↦ (found.0, found.2)
      | inr past ↦ absurd (omega (arith, past.0, lt))
    ]

module _ (index : HistoryIndex) (entry : Entry) (book : SeenBook) (next : TakesNext index entry book) where
  -- its legs are on accounts of the index
  pub legs-there : (legs : List Leg) → legs ≡ entry.pay.legs → All (IsOnAccount (length index.ledgers.items)) legs
  legs-there legs same i leg lt =
      let at : slice_get legs i ≡ Some (get_or legs i leg) = slice_get-get_or legs i leg lt in
      let listed = ((next-fit index entry book next).each i (get_or legs i leg) (ap (λ (ls : List Leg). slice_get ls i) (sym same) ∙ at)).listed in
      (omega (arith, listed.0), omega (arith, listed.0, listed.1, next.is.ledgers.size))

  -- and they are few
  pub legs-few : (legs : List Leg) → legs ≡ entry.pay.legs → length legs ≤ 3
  legs-few legs same = subst (λ (ls : List Leg). length ls ≤ 3) (sym same) (next-fit index entry book next).few

  -- the index keeps a payment, or none, for each place
  pub payments-there : length index.payments.items ≡ index.entries
  payments-there = ap length next.is.payments ∙ payments-length book.chart book.entries ∙ sym next.is.count

  module _ (n : ℕ) (named : named_place entry.pay ≡ Some n) where
    -- it names no place of an entry
    pub takes-outside : (n ≡ 0) ⊎ (index.entries < n) → is_next_return book.chart book.entries entry ≡ false
    takes-outside out =
        elim out [
          | inl nothing ↦ takes-out book.chart book.entries entry n named (inl nothing)
          | inr past ↦ takes-out book.chart book.entries entry n named (inr (subst (λ (k : ℕ). k < n) next.is.count past))
        ]

    module _ (from : 1 ≤ n) (there : n ≤ index.entries) (kept : Option Origin) (is : kept ≡ get_or index.payments.items (n - 1) kept) where
      named-entry : (origin : Entry) × (slice_get book.entries (n - 1) ≡ Some origin)
      named-entry = entry-there book.entries (n - 1) (omega (arith, from, there, next.is.count))

      kept-there : slice_get (payments_of book.chart book.entries) (n - 1) ≡ Some kept
      kept-there =
          ap (λ (os : List (Option Origin)). slice_get os (n - 1)) (sym next.is.payments)
          ∙ slice_get_read index.payments.items index.entries (n - 1) kept (sym payments-there) (omega (arith, from, there)) is

      -- no payment stands at the place that it names
      pub takes-no-payment : kept ≡ None → is_next_return book.chart book.entries entry ≡ false
      takes-no-payment none =
          takes-none book.chart book.entries entry n named-entry.0 named from named-entry.1 (kept-there ∙ ap (λ (o : Option Origin). Some o) none)

      -- a payment stands there
      pub takes-payment : (origin : Origin) → kept ≡ Some origin → is_next_return book.chart book.entries entry ≡ is_equal entry.pay (opposite_pay book.chart origin n entry.pay.value)
      takes-payment origin some =
          takes-some book.chart book.entries entry n named-entry.0 named from named-entry.1 origin (kept-there ∙ ap (λ (o : Option Origin). Some o) some)
