-- Lines of words, and lists of numbered lines.
use Rattle.std.specs.Prelude.{ℕ, ◌+◌, List, [], ◌∷◌, ◌++◌, Option, Some, None}
use Rattle.std.specs.List.{flat_map}

-- words after others, each with a space before it
abbrev pub spaced : List (List ℕ) → List ℕ
spaced words = flat_map (λ word. 32 ∷ word) words

-- a line: words with spaces between them, and a line feed
abbrev pub line : List ℕ → List (List ℕ) → List ℕ
line first more = first ++ spaced more ++ 10 ∷ []

-- a line for each element, with its number
abbrev pub numbered : {A : Type 0} → (ℕ → A → List ℕ) → ℕ → List A → List ℕ
numbered line_of n [] = []
numbered line_of n (x ∷ xs) = line_of n x ++ numbered line_of (n + 1) xs

-- what is said of something that is there
abbrev pub said : {A : Type 0} → Option A → (A → List (List ℕ)) → List (List ℕ)
said (Some x) words = words x
said None words = []
