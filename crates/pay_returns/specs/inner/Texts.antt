-- Lists by what they begin with.
use Rattle.std.specs.Prelude.{ℕ, Bool, List, [], ◌∷◌, drop, length, take, Option, Some, None, if◌then◌else◌}
use Rattle.std.specs.Str.{bytes_eq}

-- what stands in a text after a beginning
unfoldable pub after : List ℕ → List ℕ → Option (List ℕ)
after front text = if bytes_eq (take (length front) text) front then Some (drop (length front) text) else None

-- what stands in a list after elements that are the same as these
abbrev pub after_all : {A : Type 0} → (A → A → Bool) → List A → List A → Option (List A)
after_all same [] xs = Some xs
after_all same (y ∷ ys) [] = None
after_all same (y ∷ ys) (x ∷ xs) = if same x y then after_all same ys xs else None
