-- The places of entries by their references.
use Rattle.std.specs.Prelude.{ℕ, List, map}
use Rattle.day_model.specs.declared.entry.Entry.{Entry}

-- the references of a history, and for how many more there is room
pub record References : Type 0 where
  pub references : List (List ℕ)
  pub spare : ℕ

-- the references of entries, in their order
abbrev pub references_of : List Entry → List (List ℕ)
references_of history = map (λ e. e.pay.mir.0) history
