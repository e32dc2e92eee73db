-- The rows of messages.
use Rattle.std.proofs.Common.{◌≡◌, ℕ, ◌+◌, ◌<◌, List, [], ◌∷◌, ◌++◌, length, get_or, map, take, sym, ap, ◌∙◌}
use Rattle.std.proofs.lemmas.List.{map-append, take_more}
use Rattle.desk_page.specs.declared.row.Row.{Row}

-- one row more
pub rows_more : (f : List ℕ → Row) (ms : List (List ℕ)) (i : ℕ) (m : List ℕ) (rows new : List Row) (row : Row) → i < length ms → rows ≡ map f (take i ms) → row ≡ f m → m ≡ get_or ms i m
    → new ≡ rows ++ row ∷ [] → new ≡ map f (take (i + 1) ms)
rows_more f ms i m rows new row within so_far is item pushed =
    pushed ∙ ap (λ (rs : List Row). rs ++ row ∷ []) so_far ∙ ap (λ (r : Row). map f (take i ms) ++ r ∷ []) (is ∙ ap f item)
    ∙ sym (ap (λ (xs : List (List ℕ)). map f xs) (take_more ms i m within) ∙ map-append f (take i ms) (get_or ms i m ∷ []))
