-- What is noted of the places that fields take.
use Rattle.std.specs.Prelude.{◌≡◌, ℕ, ◌<◌, ◌==◌, Bool, false, List, length, get_or}
use Rattle.std.specs.List.{list_any}

-- of each place below 64, whether a field takes it
pub record AreNoted (taken : List Bool) (places : List ℕ) : Type 0 where
  pub long : length taken ≡ 64
  pub noted : (k : ℕ) → k < 64 → get_or taken k false ≡ list_any (λ p. p == k) places
