-- A cover that was read passed its tests.
use Rattle.std.proofs.Common.{◌≡◌, List, None, Ok}
use Rattle.corr_text.specs.First.{first_of}
use Rattle.ref_tables.specs.Seen.{Tables}
use Rattle.fin_fields.specs.declared.field.Field.{Field}
use Rattle.fin_layout.specs.Tests.{passed}
use Rattle.fin_layout.proofs.laws.Passed.{passed-none}
use Rattle.fin_contents.proofs.laws.Steps.{read-then}
use Rattle.mt202cov.specs.Message.{field_tests, mt202cov_of}
use Rattle.mt202cov.specs.Rules.{all_rules}
use Rattle.mt202cov.specs.declared.message.Mt202Cov.{Mt202Cov}
use Rattle.mt202cov.proofs.RoundTrip.{accepted}

-- of the fields of a cover that was read no test fails
pub fields-pass : (t : Tables) (fs : List Field) (m : Mt202Cov) → mt202cov_of t fs ≡ Ok m → first_of (field_tests t fs) ≡ None
unfolding mt202cov_of
fields-pass t fs m e = let tests = read-then (passed (field_tests t fs)) _ m e in passed-none (field_tests t fs) tests.0 tests.1

-- and it breaks no rule
pub rules-pass : (t : Tables) (fs : List Field) (m : Mt202Cov) → mt202cov_of t fs ≡ Ok m → first_of (all_rules m) ≡ None
rules-pass t fs m e = (accepted t fs m e).rules
