-- Fields grouped by place: what a writer writes.
use Rattle.std.specs.Prelude.{◌+◌, List, [], ◌∷◌, ◌++◌}
use Rattle.fin_fields.specs.declared.field.Field.{Field}

-- the fields of the groups, one after the other
abbrev pub joined : List (List Field) → List Field
joined [] = []
joined (s ∷ ss) = s ++ joined ss
