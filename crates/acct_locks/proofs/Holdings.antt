-- Legs on held purses.
use Rattle.std.proofs.Common.{◌≡◌, ◌≢◌, ℕ, List, [], ◌∷◌, refl, sym, ap, ◌∙◌, subst, inl, inr, ⊎_elim, arith}
use Rattle.std.proofs.lemmas.Bool.{cases_eq, eq-eqb, ne_eqb}
use Rattle.std.proofs.lemmas.List.Elements.{All-rest}
use Rattle.day_model.specs.declared.pay.Leg.{Leg}
use Rattle.day_model.specs.Totals.{Pair, plus, Fits64, leg_pair, legs_pair}
use Rattle.day_model.proofs.laws.Pairs.{plus_nothing}
use Rattle.acct_locks.specs.Holdings.{Holding, Holds, HoldsOnce, held_totals, held_with, CanSettle}
use Rattle.day_model.proofs.laws.PairLists.{plus_leg, plus_own, plus_other, fits_less}

-- legs leave the accounts that are held
holds_before : (legs : List Leg) (held : List Holding) (n : ℕ) → Holds (held_with legs held) n → Holds held n
holds_before legs [] n it = it
holds_before legs (h ∷ held) n it = ⊎_elim inl (λ rest. inr (holds_before legs held n rest)) it

once_with : (legs : List Leg) (held : List Holding) (n : ℕ) → HoldsOnce held n → HoldsOnce (held_with legs held) n
once_with legs [] n it = it
once_with legs (h ∷ held) n it =
    ⊎_elim
    (λ (here : (h.number ≡ n) × (Holds held n → ⊥)). inl (here.0, λ again. here.1 (holds_before legs held n again)))
    (λ (below : (h.number ≢ n) × HoldsOnce held n). inr (below.0, once_with legs held n below.1))
    it

pub holds_once : (held : List Holding) (n : ℕ) → HoldsOnce held n → Holds held n
holds_once [] n it = it
holds_once (h ∷ held) n it =
    ⊎_elim
    (λ (here : (h.number ≡ n) × (Holds held n → ⊥)). inl here.0)
    (λ (below : (h.number ≢ n) × HoldsOnce held n). inr (holds_once held n below.1))
    it

-- no legs, and legs one after another
pub held_with-nil : (held : List Holding) → held_with [] held ≡ held
held_with-nil [] = refl
held_with-nil (h ∷ held) =
    let totals : plus h.pair (legs_pair h.number []) ≡ h.pair = plus_nothing h.pair in
    let rest = held_with-nil held in
    λ i. record { table = h.table; number = h.number; pair = totals i } ∷ rest i

held_with-cons : (leg : Leg) (legs : List Leg) (held : List Holding) → held_with (leg ∷ legs) held ≡ held_with legs (held_with (leg ∷ []) held)
held_with-cons leg legs [] = refl
held_with-cons leg legs (h ∷ held) =
    let totals = plus_leg h.number h.pair leg legs in
    let rest = held_with-cons leg legs held in
    λ i. record { table = h.table; number = h.number; pair = totals i } ∷ rest i

-- one leg changes the purse of its account alone
untouched : (leg : Leg) (held : List Holding) → (Holds held leg.account.0 → ⊥) → held_with (leg ∷ []) held ≡ held
untouched leg [] none = refl
untouched leg (h ∷ held) none =
    let totals = plus_other h.number h.pair leg (λ e. none (inl (sym e))) in
    let rest = untouched leg held (λ it. none (inr it)) in
    λ i. record { table = h.table; number = h.number; pair = totals i } ∷ rest i

pub settled_last : (leg : Leg) (purse h next : Holding) (held : List Holding) → purse ≡ h → next ≡ record { table = purse.table; number = purse.number; pair = plus purse.pair (leg_pair leg) }
    → leg.account.0 ≡ h.number → (Holds held leg.account.0 → ⊥) → next ∷ held ≡ held_with (leg ∷ []) (h ∷ held)
settled_last leg purse h next held same added is none =
    let here : next ≡ record { table = h.table; number = h.number; pair = plus h.pair (leg_pair leg) } =
    added ∙ ap (λ (x : Holding). record { table = x.table; number = x.number; pair = plus x.pair (leg_pair leg) }) same in
    let totals : plus h.pair (leg_pair leg) ≡ plus h.pair (legs_pair h.number (leg ∷ [])) = sym (plus_own h.number h.pair leg is) in
    let rest = untouched leg held none in
    ap (λ (x : Holding). x ∷ held) here ∙ (λ i. record { table = h.table; number = h.number; pair = totals i } ∷ sym rest i)

-- the purse taken last has the account, and no other has it
pub last_alone : (h : Holding) (held : List Holding) (n : ℕ) → h.number ≡ n → HoldsOnce (h ∷ held) n → Holds held n → ⊥
last_alone h held n is once =
    ⊎_elim
    (λ (here : (h.number ≡ n) × (Holds held n → ⊥)). here.1)
    (λ (below : (h.number ≢ n) × HoldsOnce held n). absurd (below.0 is))
    once

-- the totals of a held account, with what the legs add to it
pub totals_with : (legs : List Leg) (held : List Holding) (n : ℕ) → Holds held n → held_totals (held_with legs held) n ≡ plus (held_totals held n) (legs_pair n legs)
totals_with legs [] n it = absurd it
totals_with legs (h ∷ held) n it =
    elim (cases_eq h.number n) [
      | inl here ↦ rw (eq-eqb h.number n here) (ap (λ (m : ℕ). plus h.pair (legs_pair m legs)) here)
      | inr apart ↦ rw (ne_eqb h.number n apart) (totals_with legs held n (⊎_elim (λ (here : h.number ≡ n). absurd (apart here)) (λ (below : Holds held n). below) it))
    ]

-- the legs that are left at a leg
module _ (left rest : List Leg) (leg : Leg) (held : List Holding) (is : left ≡ leg ∷ rest) (can : CanSettle left held) where
  here : CanSettle (leg ∷ rest) held
  here = subst (λ (ls : List Leg). CanSettle ls held) is can

  pub next_once : HoldsOnce held leg.account.0
  next_once = here.once 0 leg (omega arith)

  pub next_fits : Fits64 (plus (held_totals held leg.account.0) (leg_pair leg))
  next_fits =
      let n = leg.account.0 in
      let p = held_totals held n in
      subst Fits64 (plus_own n p leg refl) (fits_less (plus p (legs_pair n (leg ∷ []))) (legs_pair n rest) (subst Fits64 (plus_leg n p leg rest) (here.fits 0 leg (omega arith))))

  rest_fits : (n : ℕ) → HoldsOnce held n → Fits64 (plus (held_totals held n) (legs_pair n (leg ∷ rest))) → Fits64 (plus (held_totals (held_with (leg ∷ []) held) n) (legs_pair n rest))
  rest_fits n once fits = subst Fits64 (plus_leg n (held_totals held n) leg rest ∙ ap (λ (p : Pair). plus p (legs_pair n rest)) (sym (totals_with (leg ∷ []) held n (holds_once held n once)))) fits

  pub next_can : CanSettle rest (held_with (leg ∷ []) held)
  next_can =
      let once = All-rest (λ (x : Leg). HoldsOnce held x.account.0) leg rest (leg ∷ rest) refl here.once in
      let fits = All-rest (λ (x : Leg). Fits64 (plus (held_totals held x.account.0) (legs_pair x.account.0 (leg ∷ rest)))) leg rest (leg ∷ rest) refl here.fits in
      record { once = λ k d lt. once_with (leg ∷ []) held _ (once k d lt); fits = λ k d lt. rest_fits _ (once k d lt) (fits k d lt) }

  pub held_next : held_with rest (held_with (leg ∷ []) held) ≡ held_with left held
  held_next = sym (held_with-cons leg rest held) ∙ ap (λ (ls : List Leg). held_with ls held) (sym is)
