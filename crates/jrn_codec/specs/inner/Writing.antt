-- What writing into a buffer needs.
use Rattle.std.specs.Prelude.{◌≡◌, ℕ, ◌≤◌, ◌+◌, List, length, take, Result, IsOk}

-- with room for the bytes it succeeds, and it takes no more room than they need
abbrev pub WritesInRoom : {E : Type 0} → List ℕ → ℕ → ℕ → Result (Unit {0}) E → Type 0
WritesInRoom bytes spare left result = length bytes ≤ spare → IsOk result × (spare ≤ left + length bytes)

-- bytes that stand in front of what is there now
pub record IsFrontOf (before now : List ℕ) : Type 0 where
  pub kept : take (length before) now ≡ before
