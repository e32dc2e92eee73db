-- Calls that write nothing.
use Rattle.std.specs.Prelude.{◌≡◌, ℕ, List}
use Rattle.corr_disk.specs.Disk.{NoMore, LeavesOnly}

-- Nothing was written: a read gives the same, and a crash at any moment since old leaves what one then might have.
pub record IsUntouched {D : Type 0} (reads : D → List ℕ) (may_leave : D → List ℕ → Type 0)
    (moment : D → ℕ) (left_since : D → ℕ → List ℕ → Type 0) (old new : D) : Type 0 where
  pub same : reads new ≡ reads old
  pub no_more : NoMore (may_leave old) (may_leave new)
  pub any_moment : LeavesOnly moment left_since old new (may_leave old)
