use Rattle.std.proofs.Common.{◌≡◌, ◌+◌, ◌-◌, List, [], ◌∷◌, ◌++◌, w64, ℕ, get_or, sym, ap, ◌∙◌, subst, arith, ℤ}
use Rattle.std.proofs.lemmas.Int.{to_z-of_z}
use Rattle.day_model.specs.Chart.{IsListed, IsSmall}
use Rattle.day_model.specs.Totals.{Pair}
use Rattle.day_model.proofs.CorePurses.{balance_by_pair, opened_more, small_now}
use Rattle.day_model.proofs.core_ledger.balances.Goals as goal

-- the pair of the account that follows
placed : (pairs : List Pair) (i : ℕ) (p : Pair) → p ≡ get_or pairs i p → p ≡ get_or pairs (i + 1 - 1) p
placed pairs i p is =
    let place : i ≡ i + 1 - 1 = omega arith in
    is ∙ ap (λ (k : ℕ). get_or pairs k p) place

pub balance_with-requires : goal.balance_with-requires
balance_with-requires c =
    let chart = c.args.a.now in
    let entries = c.args.h.now.entries in
    let n = c.loop-at.at + 1 in
    let there : IsListed chart n = (omega arith, omega (arith, c.loop-at-test.true, c.count-at-end.ensures.count)) in
    let is =
    balance_by_pair chart entries c.in_ok-pairs.pairs.items n c.index.result.now c.get-account.result.now c.in_ok-pairs.ensures.value there
    (placed c.in_ok-pairs.pairs.items c.loop-at.at c.index.result.now c.index.ensures) c.get-account.ensures.value in
    subst IsSmall (sym is) (small_now chart entries n c.count-at-end.ensures.sound c.requires there)

pub loop-at-preserved : goal.loop-at-preserved
loop-at-preserved c =
    let chart = c.args.a.now in
    let entries = c.args.h.now.entries in
    let n = c.loop-at.at + 1 in
    let there : IsListed chart n = (omega arith, omega (arith, c.loop-at-test.true, c.count-at-end.ensures.count)) in
    let is =
    balance_by_pair chart entries c.in_ok-pairs.pairs.items n c.index.result.now c.get-account.result.now c.in_ok-pairs.ensures.value there
    (placed c.in_ok-pairs.pairs.items c.loop-at.at c.index.result.now c.index.ensures) c.get-account.ensures.value in
    opened_more chart entries c.loop-at.at c.loop-at.purses.items c.push.new.self.items c.balance_with.result
    (c.in_ok-push.ensures.items
    ∙ ap (λ (z : ℤ). c.loop-at.purses.items ++ z ∷ []) (to_z-of_z w64 c.balance_with.result (record { sfits = c.balance_with.type_inv })))
    (c.balance_with.ensures ∙ is) c.loop-at.invariant
