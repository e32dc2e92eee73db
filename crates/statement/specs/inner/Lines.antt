-- The lines of an account's statement.
use Rattle.std.specs.Prelude.{ℕ, ◌+◌, ◌≤◌, List, [], ◌∷◌}
use Rattle.statement.specs.Lines.{Placed}

-- the numbers of what is in a list rise, from this one on
abbrev pub RiseFrom : {A : Type 0} → (A → ℕ) → ℕ → List A → Type 0
RiseFrom number low [] = Unit {0}
RiseFrom number low (x ∷ xs) = (low ≤ number x) × RiseFrom number (number x + 1) xs

-- the places of lines rise
abbrev pub PlacesFrom : ℕ → List Placed → Type 0
PlacesFrom low ps = RiseFrom (λ p. p.place) low ps
