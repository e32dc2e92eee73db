-- What is told of the pages that were received.
use Rattle.std.specs.Prelude.{◌≡◌, ℕ, List, ◌++◌}

-- a text was added, and so many entries may be compared after it
pub record Adds (old new text : List ℕ) (left meant : ℕ) : Type 0 where
  pub added : new ≡ old ++ text
  pub rest : left ≡ meant
