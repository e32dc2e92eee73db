-- Lines as fields.
use Rattle.std.specs.Prelude.{◌+◌, List, [], ◌∷◌, ◌++◌}
use Rattle.fin_fields.specs.declared.field.Field.{Field}
use Rattle.fin_fields.specs.Fields.{Grouped}

-- fields of which the last is open, and what groups of further lines make of them
abbrev pub so_far : List Field → Grouped → List Field
so_far [] g = g.fields
so_far (f ∷ []) g = record f { lines = f.lines ++ g.continued } ∷ g.fields
so_far (f ∷ next ∷ fields) g = f ∷ so_far (next ∷ fields) g
