-- What legs move on an account and in a currency.
use Rattle.std.proofs.Common.{◌≡◌, ◌≢◌, ℕ, zero, suc, ◌<◌, ◌≤◌, Bool, true, false, List, [], ◌∷◌, Some, refl, sym, ◌∙◌, subst, arith, cond, eqb, inl, inr}
use Rattle.std.specs.Prelude.{◌⊎◌, ◌&&◌, slice_get, sum_by}
use Rattle.std.specs.List.{list_all}
use Rattle.std.proofs.lemmas.Bool.{and_parts, cases_eq, eq-eqb, eqb-false, ne_eqb, not-true}
use Rattle.std.proofs.lemmas.List.Sums.{sum_by-cons, sum_by-le-sum_by}
use Rattle.std.proofs.lemmas.Option.{same_Some, none-some}
use Rattle.corr_money.specs.Amounts.{amount_end}
use Rattle.corr_money.specs.declared.amount.Ccy.{Ccy}
use Rattle.day_model.specs.declared.pay.Side.{Side}
use Rattle.day_model.specs.declared.pay.Leg.{Leg}
use Rattle.day_model.specs.Chart.{Chart, account_at}
use Rattle.day_model.specs.Fit.{amount_on, are_apart, is_apart_from, is_side}
use Rattle.day_model.specs.Balance.{moved}
use Rattle.day_model.specs.Laws.{in_ccy, moved_in}
use Rattle.day_model.proofs.laws.Fitting.{LegsFit, all_at, sides_small}

-- ---- one leg of an account

-- a leg on account n
pub record LegOn (legs : List Leg) (n : ℕ) : Type 0 where
  pub place : ℕ
  pub leg : Leg
  pub at : slice_get legs place ≡ Some leg
  pub on : leg.account.0 ≡ n

-- what legs move on an account that none of them is on
abbrev pub NothingOn : List Leg → ℕ → Type 0
NothingOn legs n = (side : Side) → sum_by (moved side n) legs ≡ 0

nowhere : (b : Bool) (x : ℕ) → cond (b && false) x 0 ≡ 0
nowhere true x = refl
nowhere false x = refl

anywhere : (b : Bool) (x : ℕ) → cond (b && true) x 0 ≡ cond b x 0
anywhere true x = refl
anywhere false x = refl

away : (side : Side) (n : ℕ) (leg : Leg) → leg.account.0 ≢ n → moved side n leg ≡ 0
away side n leg other = rw (ne_eqb leg.account.0 n other) (nowhere (is_side side leg.side) leg.amount.0)

here : (side : Side) (n : ℕ) (leg : Leg) → leg.account.0 ≡ n → moved side n leg ≡ amount_on side leg
here side n leg on = rw (eq-eqb leg.account.0 n on) (anywhere (is_side side leg.side) leg.amount.0)

-- a leg is on an account, or legs move nothing there
pub leg_on : (legs : List Leg) (n : ℕ) → LegOn legs n ⊎ NothingOn legs n
leg_on [] n = inr (λ side. refl)
leg_on (leg ∷ legs) n = elim (cases_eq leg.account.0 n) [
  | inl on ↦ inl (record { place = 0; leg = leg; at = refl; on = on })
  | inr other ↦ elim (leg_on legs n) [
    | inl found ↦ inl (record { place = suc found.place; leg = found.leg; at = found.at; on = found.on })
    | inr nothing ↦ inr (λ side. omega (arith, sum_by-cons (moved side n) leg legs, away side n leg other, nothing side))
  ]
]

others_move_nothing : (side : Side) (n : ℕ) (leg : Leg) (legs : List Leg) → leg.account.0 ≡ n → list_all (is_apart_from leg) legs ≡ true
    → sum_by (moved side n) legs ≡ 0
others_move_nothing side n leg [] on apart = refl
others_move_nothing side n leg (x ∷ xs) on apart =
    let parts = and_parts (is_apart_from leg x) (list_all (is_apart_from leg) xs) apart in
    let differ : leg.account.0 ≢ x.account.0 = eqb-false _ _ (not-true _ parts.0) in
    let other : x.account.0 ≢ n = λ e. differ (on ∙ sym e) in
    omega (arith, sum_by-cons (moved side n) x xs, away side n x other, others_move_nothing side n leg xs on parts.1)

-- legs on distinct accounts move on the account of a leg what that leg has
pub own_moves : (side : Side) (legs : List Leg) (i : ℕ) (leg : Leg) → are_apart legs ≡ true → slice_get legs i ≡ Some leg
    → sum_by (moved side leg.account.0) legs ≡ amount_on side leg
own_moves side [] i leg apart at = absurd (none-some leg at)
own_moves side (x ∷ xs) zero leg apart at =
    let parts = and_parts (list_all (is_apart_from x) xs) (are_apart xs) apart in
    let is : x ≡ leg = same_Some x leg at in
    subst (λ (y : Leg). sum_by (moved side y.account.0) (x ∷ xs) ≡ amount_on side y) is
    (omega (
      arith,
      sum_by-cons (moved side x.account.0) x xs,
      here side x.account.0 x refl,
      others_move_nothing side x.account.0 x xs refl parts.0,
    ))
own_moves side (x ∷ xs) (suc i) leg apart at =
    let parts = and_parts (list_all (is_apart_from x) xs) (are_apart xs) apart in
    let other : x.account.0 ≢ leg.account.0 = eqb-false _ _ (not-true _ (all_at (is_apart_from x) xs i leg parts.0 at)) in
    omega (arith, sum_by-cons (moved side leg.account.0) x xs, away side leg.account.0 x other, own_moves side xs i leg parts.1 at)

-- ---- sums over an account and over a currency

part_of : (b c : Bool) (x : ℕ) → cond (b && c) x 0 ≤ cond b x 0
part_of true true x = omega arith
part_of true false x = omega arith
part_of false c x = omega arith

-- what legs that fit move on one side of an account is below 10^14
pub moved_small : (chart : Chart) (legs : List Leg) (side : Side) (n : ℕ) → LegsFit chart legs → sum_by (moved side n) legs < amount_end
moved_small chart legs side n fit =
    omega (
      arith,
      sum_by-le-sum_by (moved side n) (amount_on side) legs (λ leg. part_of (is_side side leg.side) (eqb leg.account.0 n) leg.amount.0),
      sides_small chart legs side fit,
    )

-- what legs that fit move on one side of a currency is below 10^14
pub moved_in_small : (chart : Chart) (ccy : Ccy) (legs : List Leg) (side : Side) → LegsFit chart legs
    → sum_by (moved_in chart ccy side) legs < amount_end
moved_in_small chart ccy legs side fit =
    omega (
      arith,
      sum_by-le-sum_by (moved_in chart ccy side) (amount_on side) legs
          (λ leg. part_of (is_side side leg.side) (in_ccy ccy (account_at chart leg.account.0)) leg.amount.0),
      sides_small chart legs side fit,
    )
