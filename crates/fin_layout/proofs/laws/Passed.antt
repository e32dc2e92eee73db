-- Where tests are passed, none of them fails.
use Rattle.std.proofs.Common.{◌≡◌, List, Option, Some, None, Ok, refl}
use Rattle.corr_text.specs.First.{first_of, unless_fault}
use Rattle.corr_text.specs.declared.fault.Fault.{Fault}
use Rattle.fin_layout.specs.Tests.{passed}

without-none : (o : Option Fault) (u : Unit {0}) → unless_fault o ≡ Ok u → o ≡ None
without-none None u e = refl
without-none (Some fault) u e = absurd (cc e)

-- where tests are passed, none of them fails
pub passed-none : (os : List (Option Fault)) (u : Unit {0}) → passed os ≡ Ok u → first_of os ≡ None
passed-none os u e = without-none (first_of os) u e
