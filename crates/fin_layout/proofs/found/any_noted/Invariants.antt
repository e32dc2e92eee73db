use Rattle.std.proofs.Common.{◌≡◌, ◌≤◌, ◌<◌, ◌==◌, ℕ, List, false}
use Rattle.std.specs.List.{list_any}
use Rattle.fin_layout.specs.Found.{AreNoted}
use Rattle.fin_layout.proofs.found.any_noted.Given as goal

-- no field takes one of the places so far
abbrev pub invariant-loop-place : goal.invariant-loop-place
invariant-loop-place l = (places : List ℕ) → AreNoted l.taken places → (k : ℕ) → l.first ≤ k → k < l.place → list_any (λ p. p == k) places ≡ false
