-- Room for a line of a field.
use Rattle.std.specs.Prelude.{◌<◌, ⊤}
use Rattle.arrayvec.specs.ArrayVec.{array_vec_len}
use Rattle.fin_fields.specs.declared.field_lines.Lines.{Lines}
use Rattle.fin_fields.specs.declared.field_lines.Lines.TheVariants.{Few, Listed}

-- one more line fits in their place, or they are a list
abbrev pub HasRoom : Lines → Type 0
HasRoom (Few lines) = array_vec_len lines < 2
HasRoom (Listed lines) = ⊤
