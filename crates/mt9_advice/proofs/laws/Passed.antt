-- An advice that was read passed its tests.
use Rattle.std.proofs.Common.{◌≡◌, List, None, Ok}
use Rattle.corr_text.specs.First.{first_of}
use Rattle.ref_tables.specs.Seen.{Tables}
use Rattle.fin_fields.specs.declared.field.Field.{Field}
use Rattle.fin_layout.specs.Tests.{passed}
use Rattle.fin_layout.proofs.laws.Passed.{passed-none}
use Rattle.fin_contents.proofs.laws.Steps.{read-then}
use Rattle.mt9_advice.specs.Advice.{c06, mt900_of, mt910_of, tests_900, tests_910}
use Rattle.mt9_advice.specs.declared.credit.Mt910.{Mt910}
use Rattle.mt9_advice.specs.declared.debit.Mt900.{Mt900}
use Rattle.mt9_advice.proofs.Written.{contents-of-910}

-- of the fields of the confirmation of a debit that was read no test fails
pub fields-pass-900 : (t : Tables) (fs : List Field) (m : Mt900) → mt900_of t fs ≡ Ok m → first_of (tests_900 t fs) ≡ None
unfolding mt900_of
fields-pass-900 t fs m e = let tests = read-then (passed (tests_900 t fs)) _ m e in passed-none (tests_900 t fs) tests.0 tests.1

-- nor of those of the confirmation of a credit
pub fields-pass-910 : (t : Tables) (fs : List Field) (m : Mt910) → mt910_of t fs ≡ Ok m → first_of (tests_910 t fs) ≡ None
unfolding mt910_of
fields-pass-910 t fs m e = let tests = read-then (passed (tests_910 t fs)) _ m e in passed-none (tests_910 t fs) tests.0 tests.1

-- which keeps its rule
pub rule-passes : (t : Tables) (fs : List Field) (m : Mt910) → mt910_of t fs ≡ Ok m → c06 m ≡ None
rule-passes t fs m e = (contents-of-910 t fs m e).1
