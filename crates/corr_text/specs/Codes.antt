-- Codes of refusals, letter by letter.
use Rattle.std.specs.Prelude.{codes}
use Prim.Native.String.{String}
use Rattle.corr_text.specs.declared.fault.Code.{Code}

-- the code of these letters, as `code "P30"`
abbrev pub code : String → Code
code letters = record { 0 = codes letters }
