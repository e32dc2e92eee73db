-- The notices of a return.
use Rattle.std.proofs.Common.{◌≡◌, ℕ, suc, ◌+◌, ◌-◌, ◌<◌, Bool, true, false, cond, List, [], ◌∷◌, length, Option, Some, None, refl, ap, ◌∙◌, arith, inl, inr}
use Rattle.std.specs.Prelude.{option_and_then, option_map, slice_get}
use Rattle.std.specs.List.{position_from}
use Rattle.std.proofs.lemmas.Bool.{cases_Bool}
use Rattle.std.proofs.lemmas.Option.{none-some, same_Some}
use Rattle.corr_ids.specs.declared.bic.Bic.{Bic}
use Rattle.day_model.specs.Chart.{Chart}
use Rattle.day_model.specs.declared.pay.Leg.{Leg}
use Rattle.day_model.specs.declared.pay.Order.TheVariants as order
use Rattle.pay_returns.specs.Opposite.{credit_at, credit_notice, is_credit, told_of}

-- a place counted from one more
pub position-more : {A : Type 0} (p : A → Bool) (n : ℕ) (xs : List A) → position_from p (n + 1) xs ≡ option_map (λ i. i + 1) (position_from p n xs)
position-more p n [] = refl
position-more p n (x ∷ xs) =
    elim (cases_Bool (p x)) [
      | inl met ↦ rw met refl
      | inr unmet ↦ rw unmet (position-more p (n + 1) xs)
    ]

in-step : (b : Bool) (n : ℕ) (o : Option ℕ) (more i : ℕ) → (o ≡ Some i → i < n + 1 + more) → cond b (Some n) o ≡ Some i → i < n + suc more
in-step true n o more i rest here = let same = same_Some n i here in omega (arith, same)
in-step false n o more i rest later = let lt = rest later in omega (arith, lt)

-- a place that is found lies within
position-in : {A : Type 0} (p : A → Bool) (n : ℕ) (xs : List A) (i : ℕ) → position_from p n xs ≡ Some i → i < n + length xs
position-in p n [] i e = absurd (none-some i e)
position-in p n (x ∷ xs) i e = in-step (p x) n (position_from p (n + 1) xs) (length xs) i (λ later. position-in p (n + 1) xs i later) e

pub credit-in : (legs : List Leg) (i : ℕ) → position_from is_credit 0 legs ≡ Some i → i < length legs
credit-in legs i e = let lt = position-in is_credit 0 legs i e in omega (arith, lt)

module _ (chart : Chart) (legs : List Leg) where
  pub no-credit : position_from is_credit 0 legs ≡ None → credit_notice chart legs ≡ None
  no-credit none = ap (option_and_then (credit_at chart legs)) (position-more is_credit 0 legs ∙ ap (option_map (λ i. i + 1)) none)

  pub credit-told : (i : ℕ) (leg : Leg) → position_from is_credit 0 legs ≡ Some i → slice_get legs i ≡ Some leg → credit_notice chart legs ≡ option_map (λ to. order.Credit to (i + 1)) (told_of chart leg)
  credit-told i leg e at =
      let place : i + 1 - 1 ≡ i = omega arith in
      ap (option_and_then (credit_at chart legs)) (position-more is_credit 0 legs ∙ ap (option_map (λ k. k + 1)) e)
      ∙ ap (λ (k : ℕ). option_map (λ (to : Bic). order.Credit to (i + 1)) (option_and_then (told_of chart) (slice_get legs k))) place
      ∙ ap (λ (o : Option Leg). option_map (λ (to : Bic). order.Credit to (i + 1)) (option_and_then (told_of chart) o)) at
