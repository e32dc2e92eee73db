-- What is noted of the places that fields take.
use Rattle.std.specs.Prelude.{◌≡◌, ℕ, ◌<◌, ◌==◌, ◌||◌, Bool, false, List, length, get_or}

-- a place is noted too
pub record IsNotedToo (old new : List Bool) (at : ℕ) : Type 0 where
  pub long : length new ≡ length old
  pub noted : (k : ℕ) → k < length old → get_or new k false ≡ (get_or old k false || (at == k))
