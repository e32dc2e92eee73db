-- The code's lines of a field, as the definitions see them.
use Rattle.std.specs.Prelude.{ℕ, List}
use Rattle.fin_fields.specs.declared.field_lines.Lines.{Lines}
use Rattle.fin_fields.specs.declared.field_lines.Lines.TheVariants.{Few, Listed}

-- a few lines in their place, or a list
abbrev pub lines_in : Lines → List (List ℕ)
lines_in (Few lines) = lines.items
lines_in (Listed lines) = lines
