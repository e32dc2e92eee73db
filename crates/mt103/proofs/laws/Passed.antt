-- A transfer that was read passed the tests of its fields.
use Rattle.std.proofs.Common.{◌≡◌, List, [], ◌∷◌, None, Ok}
use Rattle.corr_text.specs.First.{first_of}
use Rattle.ref_tables.specs.Seen.{Tables}
use Rattle.fin_fields.specs.declared.field.Field.{Field}
use Rattle.fin_layout.specs.Tests.{passed}
use Rattle.fin_layout.proofs.laws.Passed.{passed-none}
use Rattle.fin_contents.proofs.laws.Steps.{read-then}
use Rattle.mt103.specs.Instructions.{d98, e46}
use Rattle.mt103.specs.Message.{field_tests, mt103_of}
use Rattle.mt103.specs.declared.message.Mt103.{Mt103}
use Rattle.mt103.proofs.RoundTrip.{is-read}

-- of the fields of a transfer that was read no test fails
pub fields-pass : (t : Tables) (fs : List Field) (m : Mt103) → mt103_of t fs ≡ Ok m → first_of (field_tests t fs) ≡ None
unfolding mt103_of
fields-pass t fs m e = let tests = read-then (passed (field_tests t fs)) _ m e in passed-none (field_tests t fs) tests.0 tests.1

-- and its instructions stand together
pub instructions-pass : (t : Tables) (fs : List Field) (m : Mt103) → mt103_of t fs ≡ Ok m → first_of (e46 m.instrs ∷ d98 m.instrs ∷ []) ≡ None
instructions-pass t fs m e = passed-none (e46 m.instrs ∷ d98 m.instrs ∷ []) tt (is-read t fs m e).instrs
