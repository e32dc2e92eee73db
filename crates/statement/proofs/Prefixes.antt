-- Lists from their front on.
use Rattle.std.proofs.Common.{◌≡◌, ℕ, zero, suc, ◌+◌, ◌-◌, List, [], ◌∷◌, ◌++◌, map, take, Some, ap, ◌∙◌, subst, arith}
use Rattle.std.specs.Prelude.{slice_get}
use Rattle.std.proofs.lemmas.List.{take_more}
use Rattle.std.proofs.lemmas.Option.{get_or_from_slice_get, none-some, same_Some, slice_get_within}

-- one entry more of a list
pub take-next : {A : Type 0} (xs : List A) (k : ℕ) (x : A) → slice_get xs (k + 1 - 1) ≡ Some x → take (k + 1) xs ≡ take k xs ++ x ∷ []
take-next xs k x at =
    let here : slice_get xs k ≡ Some x = subst (λ (j : ℕ). slice_get xs j ≡ Some x) (omega arith) at in
    take_more xs k x (slice_get_within xs k x here) ∙ ap (λ y. take k xs ++ y ∷ []) (get_or_from_slice_get xs k x x here)

pub map-get : {A B : Type 0} (f : A → B) (xs : List A) (i : ℕ) (x : A) → slice_get xs i ≡ Some x → slice_get (map f xs) i ≡ Some (f x)
map-get f [] i x at = absurd (none-some x at)
map-get f (y ∷ xs) zero x at = ap (λ z. Some (f z)) (same_Some y x at)
map-get f (y ∷ xs) (suc i) x at = map-get f xs i x at
