-- The records that a follower holds.
use Rattle.std.specs.Prelude.{◌⊎◌, ℕ, List, [], ◌∷◌, ◌++◌}
use Rattle.standby.specs.Held.{Held, records_of, StandsForAll, StandsForHeld, MayComeNext}

-- the bytes stand for what is held, or for it with this record, which may stand next
abbrev pub IsBeforeOrWith : Held → List ℕ → List ℕ → Type 0
IsBeforeOrWith held r image = StandsForHeld held image ⊎ (MayComeNext held r × StandsForAll (records_of held ++ r ∷ []) image)
