-- Legs on distinct accounts: one of an account at most.
use Rattle.std.proofs.Common.{◌≡◌, ◌≢◌, ℕ, zero, suc, ◌==◌, true, List, [], ◌∷◌, Some, refl, sym, ap, ◌∙◌, subst, inl, inr}
use Rattle.std.specs.Prelude.{◌⊎◌, slice_get}
use Rattle.std.specs.List.{filter, list_all}
use Rattle.std.proofs.lemmas.Bool.{and_parts, cases_eq, eq-eqb, eqb-false, ne_eqb, not-true}
use Rattle.std.proofs.lemmas.Option.{none-some, same_Some}
use Rattle.day_model.specs.Fit.{are_apart, is_apart_from}
use Rattle.day_model.specs.declared.pay.Leg.{Leg}
use Rattle.day_model.proofs.laws.Fitting.{all_at}

-- the legs on account n
abbrev pub on : ℕ → List Leg → List Leg
on n legs = filter (λ leg. leg.account.0 == n) legs

-- no leg behind the first is on its account
pub no-more : (n : ℕ) (leg : Leg) (legs : List Leg) → leg.account.0 ≡ n → list_all (is_apart_from leg) legs ≡ true → on n legs ≡ []
no-more n leg [] here apart = refl
no-more n leg (x ∷ legs) here apart =
    let parts = and_parts (is_apart_from leg x) (list_all (is_apart_from leg) legs) apart in
    let differ : leg.account.0 ≢ x.account.0 = eqb-false _ _ (not-true _ parts.0) in
    rw (ne_eqb x.account.0 n (λ e. differ (here ∙ sym e))) (no-more n leg legs here parts.1)

-- no leg is on an account, or one
pub on-one : (n : ℕ) (legs : List Leg) → are_apart legs ≡ true → (on n legs ≡ []) ⊎ ((leg : Leg) × (leg.account.0 ≡ n) × (on n legs ≡ leg ∷ []))
on-one n [] apart = inl refl
on-one n (x ∷ legs) apart =
    let parts = and_parts (list_all (is_apart_from x) legs) (are_apart legs) apart in
    elim (cases_eq x.account.0 n) [
      | inl here ↦ inr (x, here, rw (eq-eqb x.account.0 n here) (ap (λ (ls : List Leg). x ∷ ls) (no-more n x legs here parts.0)))
      | inr other ↦ rw (ne_eqb x.account.0 n other) (on-one n legs parts.1)
    ]

-- a leg is the only one on its account
pub on-own : (legs : List Leg) (i : ℕ) (leg : Leg) → are_apart legs ≡ true → slice_get legs i ≡ Some leg → on leg.account.0 legs ≡ leg ∷ []
on-own [] i leg apart at = absurd (none-some leg at)
on-own (x ∷ legs) zero leg apart at =
    let parts = and_parts (list_all (is_apart_from x) legs) (are_apart legs) apart in
    subst (λ (y : Leg). on y.account.0 (x ∷ legs) ≡ y ∷ []) (same_Some x leg at)
    (rw (eq-eqb x.account.0 x.account.0 refl) (ap (λ (ls : List Leg). x ∷ ls) (no-more x.account.0 x legs refl parts.0)))
on-own (x ∷ legs) (suc i) leg apart at =
    let parts = and_parts (list_all (is_apart_from x) legs) (are_apart legs) apart in
    let differ : x.account.0 ≢ leg.account.0 = eqb-false _ _ (not-true _ (all_at (is_apart_from x) legs i leg parts.0 at)) in
    rw (ne_eqb x.account.0 leg.account.0 differ) (on-own legs i leg parts.1 at)
