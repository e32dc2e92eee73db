-- Sums of a few amounts.
use Rattle.std.proofs.Common.{◌≡◌, ℕ, ◌*◌, ◌^◌, ◌<◌, ◌≤◌, true, List, [], ◌∷◌, arith, length, ltb}
use Rattle.std.specs.List.{list_all}
use Rattle.std.proofs.lemmas.Bool.{and_parts, cond_both, ltb-true}
use Rattle.std.proofs.lemmas.List.Sums.{sum_by-cons}
use Rattle.corr_money.specs.Amounts.{amount_end}
use Rattle.day_model.specs.declared.pay.Side.{Side}
use Rattle.day_model.specs.declared.pay.Leg.{Leg}
use Rattle.day_model.specs.Fit.{amount_on, has_amount, is_side, side_sum}

bounded : (side : Side) (legs : List Leg) → list_all has_amount legs ≡ true → side_sum side legs ≤ length legs * amount_end
bounded side [] small = omega arith
bounded side (leg ∷ legs) small =
    let parts = and_parts (has_amount leg) (list_all has_amount legs) small in
    let below = ltb-true _ _ (and_parts (ltb 0 leg.amount.0) (ltb leg.amount.0 amount_end) parts.0).1 in
    let here : amount_on side leg ≤ amount_end =
    cond_both (is_side side leg.side) leg.amount.0 0 (λ (x : ℕ). x ≤ amount_end) (λ _. omega (arith, below)) (λ _. omega arith) in
    omega (arith, sum_by-cons (amount_on side) leg legs, here, bounded side legs parts.1)

-- what up to three legs have on one side fits 64 bits
pub sum_fits : (side : Side) (legs : List Leg) → length legs ≤ 3 → list_all has_amount legs ≡ true → side_sum side legs < 2 ^ 64
sum_fits side legs few small = omega (arith, bounded side legs small, few)
