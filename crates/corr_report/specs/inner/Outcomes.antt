-- The legs that outcomes name.
use Rattle.std.specs.Prelude.{ℕ, ◌≤◌}
use Rattle.day_model.specs.declared.entry.Outcome.{Outcome}
use Rattle.day_model.specs.declared.entry.Outcome.TheVariants.{Booked, Unfunded}

-- a leg that failed is one of so many
abbrev pub NamesLeg : ℕ → Outcome → Type 0
NamesLeg count Booked = Unit {0}
NamesLeg count (Unfunded k balance) = (1 ≤ k) × (k ≤ count)
