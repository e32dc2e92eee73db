-- What a return moves.
use Rattle.std.proofs.Common.{◌≡◌, ℕ, ◌+◌, ◌==◌, ◌&&◌, Bool, cond, List, [], ◌∷◌, ◌++◌, map, refl, sym, ap, ◌∙◌, arith}
use Rattle.std.specs.Prelude.{sum_by}
use Rattle.std.proofs.lemmas.List.Sums.{sum_by-cons}
use Rattle.day_model.specs.Balance.{moved}
use Rattle.day_model.specs.Fit.{is_side}
use Rattle.day_model.specs.declared.pay.Leg.{Leg}
use Rattle.day_model.specs.declared.pay.Side.{Side}
use Rattle.day_model.specs.declared.pay.Side.TheVariants.{Credit, Debit}
use Rattle.pay_returns.specs.Laws.{EffectsCancel}
use Rattle.pay_returns.specs.Opposite.{on_side, opposite_leg, opposite_legs, opposite_side}

pub opposite-side : (a b : Side) → is_side a (opposite_side b) ≡ is_side (opposite_side a) b
opposite-side Debit Debit = refl
opposite-side Debit Credit = refl
opposite-side Credit Debit = refl
opposite-side Credit Credit = refl

module _ (place n : ℕ) (side : Side) where
  -- what a leg's opposite moves on one side is what the leg moves on the other
  one-moves : (leg : Leg) → moved side n (opposite_leg place leg) ≡ moved (opposite_side side) n leg
  one-moves leg = ap (λ (b : Bool). cond (b && (leg.account.0 == n)) leg.amount.0 0) (opposite-side side leg.side)

  all-move : (legs : List Leg) → sum_by (moved side n) (map (opposite_leg place) legs) ≡ sum_by (moved (opposite_side side) n) legs
  all-move [] = refl
  all-move (leg ∷ legs) =
      sum_by-cons (moved side n) (opposite_leg place leg) (map (opposite_leg place) legs)
      ∙ (λ i. one-moves leg i + all-move legs i)
      ∙ sym (sum_by-cons (moved (opposite_side side) n) leg legs)

pub sum-both : {A : Type 0} (f : A → ℕ) (xs ys : List A) → sum_by f (xs ++ ys) ≡ sum_by f xs + sum_by f ys
sum-both f [] ys = omega arith
sum-both f (x ∷ xs) ys =
    let all = sum_by-cons f x (xs ++ ys) in
    let rest = sum-both f xs ys in
    let first = sum_by-cons f x xs in
    omega (arith, all, rest, first)

-- the legs on the two sides are all legs
module _ (f : Leg → ℕ) where
  by-side : (leg : Leg) (side : Side) (all : ℕ) (cs ds : List Leg) → sum_by f cs + sum_by f ds ≡ all
      → sum_by f (cond (is_side Credit side) (leg ∷ cs) cs) + sum_by f (cond (is_side Debit side) (leg ∷ ds) ds) ≡ f leg + all
  by-side leg Credit all cs ds e = let more = sum_by-cons f leg cs in omega (arith, e, more)
  by-side leg Debit all cs ds e = let more = sum_by-cons f leg ds in omega (arith, e, more)

  pub both-sides : (legs : List Leg) → sum_by f (on_side Credit legs) + sum_by f (on_side Debit legs) ≡ sum_by f legs
  both-sides [] = refl
  both-sides (leg ∷ legs) =
      by-side leg leg.side (sum_by f legs) (on_side Credit legs) (on_side Debit legs) (both-sides legs) ∙ sym (sum_by-cons f leg legs)

moves-opposite : (place n : ℕ) (side : Side) (legs : List Leg) → sum_by (moved side n) (opposite_legs place legs) ≡ sum_by (moved (opposite_side side) n) legs
moves-opposite place n side legs =
    all-move place n side (on_side Credit legs ++ on_side Debit legs)
    ∙ sum-both (moved (opposite_side side) n) (on_side Credit legs) (on_side Debit legs)
    ∙ both-sides (moved (opposite_side side) n) legs

pub effects-cancel : EffectsCancel
effects-cancel place n entry = (moves-opposite place n Credit entry.pay.legs, moves-opposite place n Debit entry.pay.legs)
