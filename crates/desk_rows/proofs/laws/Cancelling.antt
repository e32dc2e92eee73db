-- The balances of a currency sum to 0 after any entries each of which stands in a legal history.
use Rattle.std.proofs.Common.{◌≡◌, ℕ, suc, ◌+◌, Bool, true, false, cond, List, [], ◌∷◌, Option, Some, None, refl, sym, ap, ◌∙◌}
use Rattle.std.proofs.Common.{arith, ℤ, pos, ◌+ℤ◌, ◌-ℤ◌}
use Rattle.std.specs.Prelude.{slice_get, if◌then◌else◌}
use Rattle.std.proofs.lemmas.Int.{ints}
use Rattle.std.proofs.lemmas.List.Sums.{sum_by-cons}
use Rattle.corr_ids.specs.declared.day.Day.{Day}
use Rattle.corr_money.specs.declared.amount.Ccy.{Ccy}
use Rattle.day_model.specs.declared.account.Account.{Account}
use Rattle.day_model.specs.declared.entry.Entry.{Entry}
use Rattle.day_model.specs.declared.pay.Side.TheVariants.{Debit, Credit}
use Rattle.day_model.specs.Balance.{balance_of, credits_of, debits_of, moved_by}
use Rattle.day_model.specs.Chart.{Chart, accounts_of, is_same_ccy}
use Rattle.day_model.specs.Laws.{entry_in, sum_in}
use Rattle.day_model.proofs.laws.Fitting.{LegsFit, fitting}
use Rattle.day_model.proofs.laws.Fronts.{fits_now}
use Rattle.day_model.proofs.laws.Sums.{balances_cancel, even_entry, sum_in-same, sum_moved}
use Rattle.desk_rows.specs.Until.{BalancesCancelUntil, entries_until, is_until}
use Rattle.desk_rows.proofs.Counted.{all_count}

-- an entry ahead of others moves a balance by its credits and its debits
balance_cons : (chart : Chart) (e : Entry) (entries : List Entry) (n : ℕ)
    → balance_of chart (e ∷ entries) n ≡ (balance_of chart entries n +ℤ pos (moved_by Credit n e)) -ℤ pos (moved_by Debit n e)
balance_cons chart e entries n =
    let credits : credits_of (e ∷ entries) n ≡ moved_by Credit n e + credits_of entries n = sum_by-cons (moved_by Credit n) e entries in
    let debits : debits_of (e ∷ entries) n ≡ moved_by Debit n e + debits_of entries n = sum_by-cons (moved_by Debit n) e entries in
    rw (credits, debits) (omega (arith, ints))

plus_step : (b : Bool) (x y z s u v : ℤ)
    → (if b then (x +ℤ y) -ℤ z else pos 0) +ℤ ((s +ℤ u) -ℤ v)
    ≡ (((if b then x else pos 0) +ℤ s) +ℤ ((if b then y else pos 0) +ℤ u)) -ℤ ((if b then z else pos 0) +ℤ v)
plus_step true x y z s u v = omega (arith, ints)
plus_step false x y z s u v = omega (arith, ints)

-- sums and differences on each account add up
sum_in-plus : (ccy : Ccy) (f g h : ℕ → ℤ) (n : ℕ) (accounts : List Account)
    → sum_in ccy (λ k. (f k +ℤ g k) -ℤ h k) n accounts ≡ (sum_in ccy f n accounts +ℤ sum_in ccy g n accounts) -ℤ sum_in ccy h n accounts
sum_in-plus ccy f g h n [] = refl
sum_in-plus ccy f g h n (a ∷ accounts) =
    ap (λ (z : ℤ). (if is_same_ccy a.ccy ccy then (f n +ℤ g n) -ℤ h n else pos 0) +ℤ z) (sum_in-plus ccy f g h (n + 1) accounts)
    ∙ plus_step (is_same_ccy a.ccy ccy) (f n) (g n) (h n) (sum_in ccy f (n + 1) accounts) (sum_in ccy g (n + 1) accounts) (sum_in ccy h (n + 1) accounts)

module _ (chart : Chart) (ccy : Ccy) where
  -- an entry whose legs fit leaves the sum as it is
  entry_cancels : (e : Entry) (entries : List Entry) → LegsFit chart e.pay.legs
      → sum_in ccy (balance_of chart (e ∷ entries)) 1 (accounts_of chart) ≡ sum_in ccy (balance_of chart entries) 1 (accounts_of chart)
  entry_cancels e entries fit =
      let credits = sum_moved Credit chart ccy e fit in
      let debits = sum_moved Debit chart ccy e fit in
      let same : entry_in chart ccy Debit e ≡ entry_in chart ccy Credit e = even_entry chart ccy e fit in
      sum_in-same ccy (balance_of chart (e ∷ entries)) (λ n. (balance_of chart entries n +ℤ pos (moved_by Credit n e)) -ℤ pos (moved_by Debit n e)) 1 (accounts_of chart)
      (balance_cons chart e entries)
      ∙ sum_in-plus ccy (balance_of chart entries) (λ n. pos (moved_by Credit n e)) (λ n. pos (moved_by Debit n e)) 1 (accounts_of chart)
      ∙ rw (credits, debits, same) (omega (arith, ints))

  head : (b : Bool) (e : Entry) (entries : List Entry) → LegsFit chart e.pay.legs
      → sum_in ccy (balance_of chart (cond b (e ∷ entries) entries)) 1 (accounts_of chart) ≡ sum_in ccy (balance_of chart entries) 1 (accounts_of chart)
  head true e entries fit = entry_cancels e entries fit
  head false e entries fit = refl

  -- so do all of them that count
  kept_cancel : (until : Option Day) (entries : List Entry) → ((i : ℕ) (e : Entry) → slice_get entries i ≡ Some e → LegsFit chart e.pay.legs)
      → sum_in ccy (balance_of chart (entries_until until entries)) 1 (accounts_of chart) ≡ sum_in ccy (balance_of chart []) 1 (accounts_of chart)
  kept_cancel until [] fit = refl
  kept_cancel until (e ∷ entries) fit =
      let rest = kept_cancel until entries (λ i d at. fit (suc i) d at) in
      head (is_until until e) e (entries_until until entries) (fit 0 e refl) ∙ rest

-- after the entries up to a day
pub balances_cancel_until : BalancesCancelUntil
balances_cancel_until chart entries until sound legal ccy =
    let fit : (i : ℕ) (e : Entry) → slice_get entries i ≡ Some e → LegsFit chart e.pay.legs = λ i e at. fitting chart e.pay.legs (fits_now chart entries i e legal at) in
    kept_cancel chart ccy until entries fit ∙ sym (kept_cancel chart ccy None entries fit)
    ∙ ap (λ (es : List Entry). sum_in ccy (balance_of chart es) 1 (accounts_of chart)) (all_count entries) ∙ balances_cancel chart entries sound legal ccy
