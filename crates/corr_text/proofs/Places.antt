-- A value at a place of a list.
use Rattle.std.proofs.Common.{◌≡◌, ◌<◌, ◌+◌, ℕ, suc, List, ◌∷◌, ◌++◌, length, take, drop, ap, ◌∙◌, arith}
use Rattle.std.proofs.Math.ListN.{set}
use Rattle.std.proofs.lemmas.List.{set_split}

-- in the place of one that stands there
pub put-there : {X : Type 0} (xs : List X) (i : ℕ) (x : X) → i < length xs → set xs i x ≡ take i xs ++ x ∷ drop (i + 1) xs
put-there {X} xs i x lt =
    let next : suc i ≡ i + 1 = omega arith in
    set_split xs i x lt ∙ ap (λ (n : ℕ). take i xs ++ x ∷ drop n xs) next
