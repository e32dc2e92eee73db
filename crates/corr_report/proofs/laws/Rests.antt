-- What a loop over numbered elements has still to do.
use Rattle.std.proofs.Common.{◌≡◌, ℕ, ◌+◌, ◌-◌, ◌≤◌, List, [], ◌∷◌, length, drop, Some, ap, ◌∙◌, arith}
use Rattle.std.specs.Prelude.{slice_get}
use Rattle.std.proofs.lemmas.List.{drop_more, drop_all}
use Rattle.std.proofs.lemmas.Option.{slice_get_within, get_or_from_slice_get}

-- what is left from the place of an item begins with it
pub drop_at : {A : Type 0} (xs : List A) (i : ℕ) (x : A) → slice_get xs i ≡ Some x → drop i xs ≡ x ∷ drop (i + 1) xs
drop_at {A} xs i x e =
    drop_more xs i x (slice_get_within xs i x e) ∙ ap (λ (y : A). y ∷ drop (i + 1) xs) (get_or_from_slice_get xs i x x e)

-- the same, where places count from 1
pub rest_at : {A : Type 0} (xs : List A) (n : ℕ) (x : A) → 1 ≤ n → slice_get xs (n - 1) ≡ Some x → drop (n - 1) xs ≡ x ∷ drop (n + 1 - 1) xs
rest_at {A} xs n x from_one e =
    let next : n - 1 + 1 ≡ n + 1 - 1 = omega arith in
    drop_at xs (n - 1) x e ∙ ap (λ k. x ∷ drop k xs) next

-- after the last item nothing is left
pub rest_none : {A : Type 0} (xs : List A) (n : ℕ) → length xs + 1 ≤ n → drop (n - 1) xs ≡ []
rest_none xs n past = drop_all (n - 1) xs (omega arith)
