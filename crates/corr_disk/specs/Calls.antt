-- The calls of a disk that are to come: what is known of each, and how many of them were made.
use Rattle.std.specs.Prelude.{◌≡◌, ◌==◌, nat_le, ℕ, ◌+◌, ◌≤◌, Bool, false, Option}
use Rattle.corr_disk.specs.declared.plan.Plan.{Plan}
use Rattle.corr_disk.specs.declared.plan.Plan.TheVariants.{Never, After, Once}

-- so many calls were made: what is known of the call after k more was known of the one after n + k
abbrev pub CallsMade : ℕ → (ℕ → Option Bool) → (ℕ → Option Bool) → Type 0
CallsMade n old new = (k : ℕ) → new k ≡ old (n + k)

-- at most so many
abbrev pub AtMostCalls : ℕ → (ℕ → Option Bool) → (ℕ → Option Bool) → Type 0
AtMostCalls most old new = (n : ℕ) × (n ≤ most) × CallsMade n old new

-- whether the call after so many others fails by this plan
abbrev pub fails_at : Plan → ℕ → Bool
fails_at Never k = false
fails_at (After calls) k = nat_le calls k
fails_at (Once calls) k = k == calls
