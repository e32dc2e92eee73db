-- The tests of a message's fields, in their order: structure, then each field's content in the text's order.
use Rattle.std.specs.Prelude.{ℕ, ◌+◌, ◌==◌, List, [], ◌∷◌, ◌++◌, length, Option, option_map, Result}
use Rattle.corr_text.specs.Codes.{code}
use Rattle.corr_text.specs.First.{first_of, unless, unless_fault}
use Rattle.corr_text.specs.declared.fault.Code.{Code}
use Rattle.corr_text.specs.declared.fault.Fault.{Fault}
use Rattle.fin_fields.specs.declared.field.Field.{Field}
use Rattle.fin_layout.specs.declared.place.Place.{Place}
use Rattle.fin_layout.specs.Naming.{absent, fault_at}
use Rattle.fin_layout.specs.Order.{missing_from, places_from}

-- P22: the first field that the order does not allow at its place
abbrev pub misplaced : List Place → List Field → Option Fault
misplaced order fs = unless (length (places_from order 0 fs) == length fs) (fault_at fs (length (places_from order 0 fs)) (code "P22"))

-- P23: the first mandatory field that is missing
abbrev pub lacking : List Place → List Field → Option Fault
lacking order fs = option_map (absent order) (missing_from 0 order (places_from order 0 fs))

-- P22, then P23
abbrev pub structure_tests : List Place → List Field → List (Option Fault)
structure_tests order fs = misplaced order fs ∷ lacking order fs ∷ []

-- what is wrong with the content of each field, in the text's order
unfoldable pub contents_from : (ℕ → Field → Option Code) → List Field → ℕ → List ℕ → List Field → List (Option Fault)
contents_from content_test whole i [] fs = []
contents_from content_test whole i (k ∷ found) [] = []
contents_from content_test whole i (k ∷ found) (f ∷ fs) = option_map (fault_at whole i) (content_test k f) ∷ contents_from content_test whole (i + 1) found fs

-- every test of a message's fields, given what is wrong with the content of a field at a place
abbrev pub tests : List Place → (ℕ → Field → Option Code) → List Field → List (Option Fault)
tests order content_test fs = structure_tests order fs ++ contents_from content_test fs 0 (places_from order 0 fs) fs

-- no test fails, or the first that does is told
abbrev pub passed : List (Option Fault) → Result (Unit {0}) Fault
passed os = unless_fault (first_of os)
