-- The order of a message type's fields, and the places that fields take in it.
use Rattle.std.specs.Prelude.{ℕ, ◌<◌, ◌≤◌, List, [], ◌∷◌, length}
use Rattle.fin_layout.specs.declared.place.Place.{Place}
use Rattle.fin_layout.specs.Order.{free_after}

-- places that fields take in turn, from `low` on: none falls, and one comes again only where more than one field may stand
abbrev pub Rising : List Place → ℕ → List ℕ → Type 0
Rising order low [] = Unit {0}
Rising order low (q ∷ found) = (low ≤ q) × (q < length order) × Rising order (free_after order q) found
