-- Groups of fields in their order, told one place at a time.
use Rattle.std.proofs.Common.{ℕ, ◌+◌, ◌≤◌, List, [], ◌∷◌, length, arith, inl, inr}
use Rattle.fin_fields.specs.declared.field.Field.{Field}
use Rattle.fin_layout.specs.declared.place.Place.{Place}
use Rattle.fin_layout.specs.Order.{free_after}
use Rattle.fin_layout.specs.inner.Segments.{Segment, Segments}

-- the groups of the places from j on, in turn, where the places below `low` are surely taken or passed
pub record Placed (order : List Place) (low j : ℕ) (segs : List (List Field)) : Type 0 where
  pub in_turn : Segments order low j segs

-- no group is left
pub no-more : (order : List Place) (low j : ℕ) → Placed order low j []
no-more order low j = record { in_turn = tt }

-- a group, and then those after it
infixr 5 ◌▸◌
pub ◌▸◌ : {order : List Place} {low j : ℕ} {s : List Field} {segs : List (List Field)} → Segment order low j s → Placed order low (j + 1) segs
    → Placed order low j (s ∷ segs)
◌▸◌ {low = low} here later = record { in_turn = (here, (low, inl (omega arith), later.in_turn)) }

-- a group with a field in it, and then those after it, whose places are looked for from `next` on
pub opening : {order : List Place} {low j next : ℕ} {s : List Field} {segs : List (List Field)} → Segment order low j s → Placed order next (j + 1) segs
    → 1 ≤ length s → next ≤ free_after order j → Placed order low j (s ∷ segs)
opening {next = next} here later some free = record { in_turn = (here, (next, inr (some, free), later.in_turn)) }
