-- What a worker holds, and what legs add to it.
use Rattle.std.specs.Prelude.{ℕ, ◌≤◌, List, [], ◌∷◌}

-- no account above n is away
abbrev pub AwayUpTo : ℕ → List ℕ → Type 0
AwayUpTo n [] = Unit {0}
AwayUpTo n (x ∷ away) = (x ≤ n) × AwayUpTo n away
