-- The accounts of a pay that fits, sorted, rise.
use Rattle.std.proofs.Common.{◌≡◌, ◌⊎◌, ⊎_elim, inl, inr, ℕ, zero, suc, ◌+◌, ◌<◌, ◌≤◌, List, [], ◌∷◌, length, Some, get_or, slice_get, true, not, eqb, refl, sym, ap, ◌∙◌, subst, arith}
use Rattle.std.specs.Prelude.{IsTrue, if◌then◌else◌}
use Rattle.std.specs.List.{list_all}
use Rattle.std.proofs.lemmas.Bool.{and_parts, cases_lt, eqb-false, le-ltb, lt-ltb, not-true}
use Rattle.day_model.specs.declared.pay.Leg.{Leg}
use Rattle.day_model.specs.Chart.{Chart, IsListed, accounts_of}
use Rattle.day_model.specs.Fit.{are_apart, is_apart_from, legs_fit}
use Rattle.day_model.proofs.laws.Fitting.{LegsFit, fitting}
use Rattle.corr_books.specs.inner.Numbers.{AreRising, IsOneOf, RiseBetween, inserted, sorted_accounts}

-- a number that is put in stands before a greater one, or further on
put_here : (n m : ℕ) (numbers : List ℕ) → n < m → inserted n (m ∷ numbers) ≡ n ∷ m ∷ numbers
put_here n m numbers less = ap (λ t. if t then n ∷ m ∷ numbers else m ∷ inserted n numbers) (lt-ltb n m less)

put_on : (n m : ℕ) (numbers : List ℕ) → m ≤ n → inserted n (m ∷ numbers) ≡ m ∷ inserted n numbers
put_on n m numbers least = ap (λ t. if t then n ∷ m ∷ numbers else m ∷ inserted n numbers) (le-ltb n m least)

-- with it there is one number more
length_inserted : (n : ℕ) (numbers : List ℕ) → length (inserted n numbers) ≡ length numbers + 1
length_inserted n [] = refl
length_inserted n (m ∷ numbers) =
    ⊎_elim
    (λ (less : n < m). ap length (put_here n m numbers less) ∙ omega arith)
    (λ (least : m ≤ n). ap length (put_on n m numbers least) ∙ omega (arith, length_inserted n numbers))
    (cases_lt n m)

-- it is there, those that were there stay, and there are no others
is_there : (n : ℕ) (numbers : List ℕ) → IsOneOf (inserted n numbers) n
is_there n [] = inl refl
is_there n (m ∷ numbers) =
    ⊎_elim
    (λ (less : n < m). subst (λ (l : List ℕ). IsOneOf l n) (sym (put_here n m numbers less)) (inl refl))
    (λ (least : m ≤ n). subst (λ (l : List ℕ). IsOneOf l n) (sym (put_on n m numbers least)) (inr (is_there n numbers)))
    (cases_lt n m)

stays_there : (n k : ℕ) (numbers : List ℕ) → IsOneOf numbers k → IsOneOf (inserted n numbers) k
stays_there n k [] it = absurd it
stays_there n k (m ∷ numbers) it =
    ⊎_elim
    (λ (less : n < m). subst (λ (l : List ℕ). IsOneOf l k) (sym (put_here n m numbers less)) (inr it))
    (λ (least : m ≤ n). subst (λ (l : List ℕ). IsOneOf l k) (sym (put_on n m numbers least))
    (⊎_elim (λ (same : m ≡ k). inl same) (λ (on : IsOneOf numbers k). inr (stays_there n k numbers on)) it))
    (cases_lt n m)

no_other : (n k : ℕ) (numbers : List ℕ) → IsOneOf (inserted n numbers) k → (n ≡ k) ⊎ IsOneOf numbers k
no_other n k [] it = it
no_other n k (m ∷ numbers) it =
    ⊎_elim
    (λ (less : n < m). subst (λ (l : List ℕ). IsOneOf l k) (put_here n m numbers less) it)
    (λ (least : m ≤ n). ⊎_elim
    (λ (same : m ≡ k). inr (inl same))
    (λ (on : IsOneOf (inserted n numbers) k). ⊎_elim (λ (same : n ≡ k). inl same) (λ (on : IsOneOf numbers k). inr (inr on)) (no_other n k numbers on))
    (subst (λ (l : List ℕ). IsOneOf l k) (put_on n m numbers least) it))
    (cases_lt n m)

-- numbers still rise with a new one
still_rise : (n low most : ℕ) (numbers : List ℕ) → low < n → n ≤ most → (IsOneOf numbers n → ⊥) → RiseBetween low most numbers → RiseBetween low most (inserted n numbers)
still_rise n low most [] above within new rise = (above, within, tt)
still_rise n low most (m ∷ numbers) above within new rise =
    ⊎_elim
    (λ (less : n < m). subst (RiseBetween low most) (sym (put_here n m numbers less)) (above, within, (less, rise.1, rise.2)))
    (λ (least : m ≤ n).
    let up : m < n = ⊎_elim (λ (more : m < n). more) (λ (same : n ≤ m). absurd (new (inl (omega (arith, same, least))))) (cases_lt m n) in
    subst (RiseBetween low most) (sym (put_on n m numbers least)) (rise.0, rise.1, still_rise n m most numbers up within (λ it. new (inr it)) rise.2))
    (cases_lt n m)

-- a leg that is apart from others is on none of their accounts
on_none : (leg : Leg) (legs : List Leg) → list_all (is_apart_from leg) legs ≡ true → IsOneOf (sorted_accounts legs) leg.account.0 → ⊥
on_none leg [] apart it = it
on_none leg (other ∷ legs) apart it =
    let parts = and_parts (is_apart_from leg other) (list_all (is_apart_from leg) legs) apart in
    ⊎_elim
    (λ (same : other.account.0 ≡ leg.account.0). eqb-false leg.account.0 other.account.0 (not-true (eqb leg.account.0 other.account.0) parts.0) (sym same))
    (λ (on : IsOneOf (sorted_accounts legs) leg.account.0). on_none leg legs parts.1 on)
    (no_other other.account.0 leg.account.0 (sorted_accounts legs) it)

-- the accounts of legs that are apart rise
accounts_rise : (chart : Chart) (legs : List Leg) → ((i : ℕ) (leg : Leg) → slice_get legs i ≡ Some leg → IsListed chart leg.account.0) → are_apart legs ≡ true
    → RiseBetween 0 (length (accounts_of chart)) (sorted_accounts legs)
accounts_rise chart [] listed apart = tt
accounts_rise chart (leg ∷ legs) listed apart =
    let parts = and_parts (list_all (is_apart_from leg) legs) (are_apart legs) apart in
    let here : IsListed chart leg.account.0 = listed 0 leg refl in
    still_rise leg.account.0 0 (length (accounts_of chart)) (sorted_accounts legs) (omega (arith, here.0)) here.1 (on_none leg legs parts.0)
    (accounts_rise chart legs (λ i other at. listed (suc i) other at) parts.1)

-- there are as many as legs
as_many : (legs : List Leg) → length (sorted_accounts legs) ≡ length legs
as_many [] = refl
as_many (leg ∷ legs) = omega (arith, length_inserted leg.account.0 (sorted_accounts legs), as_many legs)

-- and that of each leg is among them
each_there : (legs : List Leg) (k : ℕ) (d : Leg) → k < length legs → IsOneOf (sorted_accounts legs) (get_or legs k d).account.0
each_there [] k d lt = absurd (omega (arith, lt))
each_there (leg ∷ legs) zero d lt = is_there leg.account.0 (sorted_accounts legs)
each_there (leg ∷ legs) (suc k) d lt = stays_there leg.account.0 (get_or legs k d).account.0 (sorted_accounts legs) (each_there legs k d (omega (arith, lt)))

-- a pay that fits has two legs or three
pub two_or_three : (chart : Chart) (legs : List Leg) → IsTrue (legs_fit chart legs) → (2 ≤ length legs) × (length legs ≤ 3)
two_or_three chart legs fits = let fit = fitting chart legs fits in (fit.many, fit.few)

-- and its accounts, sorted, rise
pub are_rising : (chart : Chart) (legs : List Leg) → IsTrue (legs_fit chart legs) → AreRising chart legs (sorted_accounts legs)
are_rising chart legs fits =
    let fit : LegsFit chart legs = fitting chart legs fits in
    record {
      many = let m = fit.many in omega (arith, m, as_many legs);
      few = let f = fit.few in omega (arith, f, as_many legs);
      rise = accounts_rise chart legs (λ i leg at. (fit.each i leg at).listed) fit.apart;
      are = λ k d lt. each_there legs k d lt;
    }
