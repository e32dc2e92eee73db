-- What was read of a source.
use Rattle.std.specs.Prelude.{ℕ, ◌≡◌, ◌+◌, ◌≤◌, List, length, Option}
use Rattle.std.specs.Io.KnownBytes.{Consumes, IsAtEnd}
use Rattle.corr_text.specs.Faults.{Rose}

-- these bytes were read: all that was left, or one more than the limit where more was left
pub record IsRead (limit : ℕ) (before after : Option (List ℕ)) (bytes : List ℕ) : Type 0 where
  pub taken : Consumes before after bytes
  pub bound : length bytes ≤ limit + 1
  pub ended : length bytes ≤ limit → IsAtEnd after

-- a source was so read, and did not fail
pub record Took {S : Type 0} (left : S → Option (List ℕ)) (faults : S → ℕ) (limit : ℕ) (old new : S) (file : List ℕ) : Type 0 where
  pub read : IsRead limit (left old) (left new) file
  pub kept : faults new ≡ faults old

-- a source or a sink failed: its count of faults rose by one, from `then` to `now`
pub record Failed {S : Type 0} (faults : S → ℕ) (old new : S) (then now : ℕ) : Type 0 where
  pub then_is : then ≡ faults old
  pub now_is : now ≡ faults new
  pub rose : Rose then now
