-- What the fields at a place say.
use Rattle.std.specs.Prelude.{ℕ, ◌+◌, ◌==◌, List, [], ◌∷◌, Option, Some, None, Result, Ok, Err, if◌then◌else◌}
use Rattle.corr_text.specs.First.{◌>>=◌}
use Rattle.corr_text.specs.declared.fault.Code.{Code}
use Rattle.corr_text.specs.declared.fault.Fault.{Fault}
use Rattle.fin_fields.specs.declared.field.Field.{Field}
use Rattle.fin_layout.specs.declared.place.Place.{Place}
use Rattle.fin_layout.specs.Naming.{absent, fault_at}
use Rattle.fin_layout.specs.Order.{field_in}

-- a content, its code as a fault of its field
abbrev pub located : {A : Type 0} → List Field → ℕ → Result A Code → Result A Fault
located fs i (Ok x) = Ok x
located fs i (Err code) = Err (fault_at fs i code)

-- what a field says that must be there
abbrev pub must_read : {A : Type 0} → List Place → List Field → ℕ → (Field → Result A Code) → Option (ℕ × Field) → Result A Fault
must_read order fs k read None = Err (absent order k)
must_read order fs k read (Some x) = located fs x.0 (read x.1)

-- what the field at a place says, where there must be one
abbrev pub in_place : {A : Type 0} → List Place → List Field → List ℕ → ℕ → (Field → Result A Code) → Result A Fault
in_place order fs found k read = must_read order fs k read (field_in fs found k)

-- what a field says that may be there
abbrev pub may_read : {A : Type 0} → List Field → (Field → Result A Code) → Option (ℕ × Field) → Result (Option A) Fault
may_read fs read None = Ok None
may_read fs read (Some x) = do
  value ← located fs x.0 (read x.1)
  Ok (Some value)

-- what the field at a place says, where there may be one
abbrev pub in_option : {A : Type 0} → List Field → List ℕ → ℕ → (Field → Result A Code) → Result (Option A) Fault
in_option fs found k read = may_read fs read (field_in fs found k)

-- what the fields at a place say, in order
unfoldable pub all_from : {A : Type 0} → List Field → ℕ → (Field → Result A Code) → ℕ → List ℕ → List Field → Result (List A) Fault
all_from whole k read i [] fs = Ok []
all_from whole k read i (p ∷ found) [] = Ok []
all_from whole k read i (p ∷ found) (f ∷ fs) =
    if p == k then (do
      first ← located whole i (read f)
      others ← all_from whole k read (i + 1) found fs
      Ok (first ∷ others))
    else all_from whole k read (i + 1) found fs
