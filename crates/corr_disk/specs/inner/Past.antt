-- What a disk in memory has been through, and all that a crash may leave of it.
use Rattle.std.specs.Prelude.{◌≡◌, ◌⊎◌, ℕ, Bool, true, false, List, [], ◌∷◌, fold, Some, None}
use Rattle.corr_disk.specs.declared.past.Write.{Write}
use Rattle.corr_disk.specs.Past.{DiskStep}

-- the bytes that it began with, and the steps since, the newest first
pub record History : Type 0 where
  pub first : List ℕ
  pub steps : List DiskStep

-- a sync is a new step, unless the newest step is one
abbrev pub Settles : List DiskStep → List DiskStep → Type 0
Settles old new = (new ≡ None ∷ old) ⊎ ((earlier : List DiskStep) × (old ≡ None ∷ earlier) × (new ≡ old))

-- a sync before, where there was one
abbrev pub after_sync : Bool → List DiskStep → List DiskStep
after_sync true steps = None ∷ steps
after_sync false steps = steps

-- the steps with this write as the newest
abbrev pub noted : List DiskStep → Write → List DiskStep
noted steps write = Some (write.at, write.piece) ∷ after_sync write.after_sync steps

-- the steps of these writes, the oldest first, and of a sync where there was one since
abbrev pub steps_of : List Write → Bool → List DiskStep
steps_of writes synced = after_sync synced (fold noted [] writes)
