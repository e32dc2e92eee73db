-- What a history moves on one side of a currency, which is the sum over the currency's accounts.
use Rattle.std.proofs.Common.{◌≡◌, ℕ, zero, suc, ◌+◌, ◌*◌, ◌^◌, ◌<◌, ◌≤◌, List, [], ◌∷◌, Some, refl, sym, ap, ◌∙◌, subst, arith, length, take, get_or, ℤ, pos}
use Rattle.std.proofs.Common.{◌+ℤ◌, inl, inr}
use Rattle.std.specs.Prelude.{slice_get, sum_by}
use Rattle.std.proofs.lemmas.Bool.{cond_both}
use Rattle.std.proofs.lemmas.Int.{ints}
use Rattle.std.proofs.lemmas.List.{take_all}
use Rattle.std.proofs.lemmas.List.Sums.{sum_by-cons, sum_by_more}
use Rattle.std.proofs.lemmas.Option.{slice_get_cases}
use Rattle.corr_money.specs.Amounts.{amount_end}
use Rattle.corr_money.specs.declared.amount.Ccy.{Ccy}
use Rattle.day_model.specs.declared.pay.Side.{Side}
use Rattle.day_model.specs.declared.pay.Side.TheVariants.{Debit, Credit}
use Rattle.day_model.specs.declared.entry.Entry.{Entry}
use Rattle.day_model.specs.Chart.{Chart, accounts_of}
use Rattle.day_model.specs.Balance.{is_booked, moved_by}
use Rattle.day_model.specs.Legal.{IsLegal}
use Rattle.day_model.specs.Laws.{sum_in, moved_in, entry_in, turnover, DebitsEqualCredits}
use Rattle.day_model.proofs.laws.Fronts.{fits_now}
use Rattle.day_model.proofs.laws.Fitting.{LegsFit, fitting}
use Rattle.day_model.proofs.laws.Legs.{moved_in_small}
use Rattle.day_model.proofs.laws.Sums.{sum_in-add, sum_in-nothing, sum_in-same, sum_moved, even_entry}

-- the sum over the accounts of what the first entries move on each
abbrev moved_over : Chart → Ccy → Side → List Entry → ℤ
moved_over chart ccy side entries = sum_in ccy (λ n. pos (sum_by (moved_by side n) entries)) 1 (accounts_of chart)

turnover_at : (side : Side) (chart : Chart) (entries : List Entry) (ccy : Ccy) (i : ℕ) → IsLegal chart entries → i ≤ length entries
    → moved_over chart ccy side (take i entries) ≡ pos (turnover chart ccy side (take i entries))
turnover_at side chart entries ccy zero legal le = sum_in-nothing ccy 1 (accounts_of chart)
turnover_at side chart entries ccy (suc i) legal le =
    elim (slice_get_cases entries i).1 [
      | inl found ↦
          let e : Entry = found.0 in
          let item : get_or entries i e ≡ e = found.3 in
          let fit = fitting chart e.pay.legs (fits_now chart entries i e legal found.2) in
          let before = turnover_at side chart entries ccy i legal (omega arith) in
          let more : (n : ℕ) → sum_by (moved_by side n) (take (i + 1) entries) ≡ sum_by (moved_by side n) (take i entries) + moved_by side n e =
          λ n.
          sum_by_more (moved_by side n) entries i e found.1 ∙ ap (λ (x : Entry). sum_by (moved_by side n) (take i entries) + moved_by side n x) item in
          let total : turnover chart ccy side (take (i + 1) entries) ≡ turnover chart ccy side (take i entries) + entry_in chart ccy side e =
          sum_by_more (entry_in chart ccy side) entries i e found.1
          ∙ ap (λ (x : Entry). turnover chart ccy side (take i entries) + entry_in chart ccy side x) item in
          let next : suc i ≡ i + 1 = omega arith in
          let so_far : ℕ = turnover chart ccy side (take i entries) in
          let both : pos so_far +ℤ pos (entry_in chart ccy side e) ≡ pos (so_far + entry_in chart ccy side e) = omega (arith, ints) in
          ap (λ (k : ℕ). moved_over chart ccy side (take k entries)) next
          ∙ sum_in-same ccy (λ n. pos (sum_by (moved_by side n) (take (i + 1) entries)))
          (λ n. pos (sum_by (moved_by side n) (take i entries) + moved_by side n e)) 1 (accounts_of chart) (λ n. ap (λ (x : ℕ). pos x) (more n))
          ∙ sum_in-add ccy (λ n. sum_by (moved_by side n) (take i entries)) (λ n. moved_by side n e) 1 (accounts_of chart)
          ∙ ap (λ (z : ℤ). z +ℤ sum_in ccy (λ n. pos (moved_by side n e)) 1 (accounts_of chart)) before
          ∙ ap (λ (z : ℤ). pos so_far +ℤ z) (sum_moved side chart ccy e fit)
          ∙ both
          ∙ ap (λ (x : ℕ). pos x) (sym total)
          ∙ ap (λ (k : ℕ). pos (turnover chart ccy side (take k entries))) (sym next)
      | inr past ↦ absurd (omega (arith, past.0))
    ]

-- after a legal history a currency's turnover is the sum of what was moved on its accounts
pub turnover_by_accounts : (side : Side) (chart : Chart) (entries : List Entry) (ccy : Ccy) → IsLegal chart entries
    → sum_in ccy (λ n. pos (sum_by (moved_by side n) entries)) 1 (accounts_of chart) ≡ pos (turnover chart ccy side entries)
turnover_by_accounts side chart entries ccy legal =
    subst (λ (es : List Entry). moved_over chart ccy side es ≡ pos (turnover chart ccy side es)) (take_all (length entries) entries (omega arith))
    (turnover_at side chart entries ccy (length entries) legal (omega arith))

-- each entry moves less than 10^14 on one side of a currency
entry_small : (side : Side) (chart : Chart) (ccy : Ccy) (e : Entry) → LegsFit chart e.pay.legs → entry_in chart ccy side e < amount_end
entry_small side chart ccy e fit =
    cond_both (is_booked e.outcome) (sum_by (moved_in chart ccy side) e.pay.legs) 0 (λ (x : ℕ). x < amount_end)
    (λ _. moved_in_small chart ccy e.pay.legs side fit) (λ _. omega arith)

bounded : (f : Entry → ℕ) (xs : List Entry) → ((i : ℕ) (x : Entry) → slice_get xs i ≡ Some x → f x < amount_end) → sum_by f xs ≤ length xs * amount_end
bounded f [] h = omega arith
bounded f (x ∷ xs) h = omega (arith, sum_by-cons f x xs, h 0 x refl, bounded f xs (λ i y e. h (suc i) y e))

-- so a turnover fits 64 bits
pub turnover_fits : (side : Side) (chart : Chart) (entries : List Entry) (ccy : Ccy) → IsLegal chart entries → turnover chart ccy side entries < 2 ^ 64
turnover_fits side chart entries ccy legal =
    omega (
      arith,
      bounded (entry_in chart ccy side) entries (λ i e at. entry_small side chart ccy e (fitting chart e.pay.legs (fits_now chart entries i e legal at))),
      legal.rules.short,
    )

even_at : (chart : Chart) (entries : List Entry) (ccy : Ccy) (i : ℕ) → IsLegal chart entries → i ≤ length entries
    → turnover chart ccy Debit (take i entries) ≡ turnover chart ccy Credit (take i entries)
even_at chart entries ccy zero legal le = refl
even_at chart entries ccy (suc i) legal le =
    elim (slice_get_cases entries i).1 [
      | inl found ↦
          let e : Entry = found.0 in
          let item : get_or entries i e ≡ e = found.3 in
          let before = even_at chart entries ccy i legal (omega arith) in
          let here = even_entry chart ccy e (fitting chart e.pay.legs (fits_now chart entries i e legal found.2)) in
          let debits : turnover chart ccy Debit (take (i + 1) entries) ≡ turnover chart ccy Debit (take i entries) + entry_in chart ccy Debit e =
          sum_by_more (entry_in chart ccy Debit) entries i e found.1
          ∙ ap (λ (x : Entry). turnover chart ccy Debit (take i entries) + entry_in chart ccy Debit x) item in
          let credits : turnover chart ccy Credit (take (i + 1) entries) ≡ turnover chart ccy Credit (take i entries) + entry_in chart ccy Credit e =
          sum_by_more (entry_in chart ccy Credit) entries i e found.1
          ∙ ap (λ (x : Entry). turnover chart ccy Credit (take i entries) + entry_in chart ccy Credit x) item in
          let next : suc i ≡ i + 1 = omega arith in
          rw (next, debits, credits, before, here) refl
      | inr past ↦ absurd (omega (arith, past.0))
    ]

-- what a legal history debits in a currency equals what it credits there
pub debits_equal_credits : (chart : Chart) (entries : List Entry) → IsLegal chart entries → DebitsEqualCredits chart entries
debits_equal_credits chart entries legal ccy =
    subst (λ (es : List Entry). turnover chart ccy Debit es ≡ turnover chart ccy Credit es) (take_all (length entries) entries (omega arith))
    (even_at chart entries ccy (length entries) legal (omega arith))
