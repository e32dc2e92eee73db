use Rattle.std.proofs.Common.{◌≡◌, ℕ, zero, suc, ◌-◌, ◌≤◌, List, length, get_or, Some, sym, ap, ◌∙◌, arith}
use Rattle.std.proofs.lemmas.Option.{slice_get-get_or}
use Rattle.day_model.specs.Totals.{Pair, pair_at}
use Rattle.jrn_book.proofs.past.pair_of.Goals as goal

at_place : (pairs : List Pair) (n : ℕ) → 1 ≤ n → n ≤ length pairs → pair_at pairs n ≡ Some (get_or pairs (n - 1) (0, 0))
at_place pairs zero low high = absurd (omega (arith, low))
at_place pairs (suc k) low high =
    let less : suc k - 1 ≡ k = omega arith in
    slice_get-get_or pairs k (0, 0) (omega (arith, high)) ∙ ap (λ (i : ℕ). Some (get_or pairs i (0, 0))) (sym less)

pub returns : goal.returns
returns c = at_place c.args.pairs.now c.args.n.0 c.requires.0 c.requires.1
