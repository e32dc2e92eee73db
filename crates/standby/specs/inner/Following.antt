-- A follower, and what it begins with.
use Rattle.std.specs.Prelude.{◌≡◌, ℕ, ◌<◌, ◌≤◌, List, [], ◌∷◌, length, take, Option, None, Some}
use Rattle.standby.specs.declared.place.Place.{Place}
use Rattle.standby.specs.declared.place.Place.TheVariants.{Bare, Journal}

-- nothing is held there
abbrev pub IsBare : {D : Type 0} → Place D → Type 0
IsBare (Bare disk) = Unit {0}
IsBare (Journal past file) = ⊥

-- of bytes of which there is more than one, the first
abbrev pub TellsFront : Option ℕ → List ℕ → Type 0
TellsFront None bytes = length bytes ≤ 1
TellsFront (Some first) bytes = (1 < length bytes) × (take 1 bytes ≡ first ∷ [])
