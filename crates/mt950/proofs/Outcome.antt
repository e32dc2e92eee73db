-- The outcome of the tests of an MT950, in their order.
use Rattle.std.proofs.Common.{◌≡◌, ℕ, List, Option, Some, None, Result, Ok, Err, refl, ◌∙◌}
use Rattle.corr_text.specs.First.{first_of, ◌>>=◌}
use Rattle.corr_text.specs.declared.fault.Fault.{Fault}
use Rattle.ref_tables.specs.Seen.{Tables}
use Rattle.fin_fields.specs.declared.field.Field.{Field}
use Rattle.fin_layout.specs.Order.{places_from}
use Rattle.fin_layout.specs.Reading.{Tells}
use Rattle.fin_layout.specs.inner.Reading.{Fails}
use Rattle.fin_layout.specs.Tests.{passed, structure_tests}
use Rattle.fin_layout.specs.declared.fault.MtFault.{MtFault}
use Rattle.fin_layout.specs.declared.fault.MtFault.TheVariants as faults
use Rattle.fin_layout.proofs.laws.InOrder.{fails-before, in-turn, structure-fails}
use Rattle.mt950.specs.Order.{order_950}
use Rattle.mt950.specs.Page.{content_test, entry_decimals, mt950_of, page_of, said_of}
use Rattle.mt950.specs.Rules.{currency_rules}
use Rattle.mt950.specs.declared.page.Page950.{Page950}
use Rattle.mt950.specs.declared.said.Said.{Said}
use Rattle.mt950.proofs.Refused.{refused}

-- the page, where no rule is broken
abbrev ruled : Said → Result Page950 Fault
ruled said = passed (currency_rules said) >>= λ _. Ok (page_of said)

stopped : {A : Type 0} (os : List (Option Fault)) (fault : Fault) (next : Result A Fault) → first_of os ≡ Some fault
    → (passed os >>= λ _. next) ≡ Err fault
stopped os fault next e = rw e refl

gone-on : {A : Type 0} (os : List (Option Fault)) (next : Result A Fault) → first_of os ≡ None → (passed os >>= λ _. next) ≡ next
gone-on os next e = rw e refl

module _ (t : Tables) (fs : List Field) where
  abbrev there : List ℕ
  there = places_from order_950 0 fs

  abbrev said : Result Said Fault
  said = said_of t fs there

  pub structure-950 : (e : MtFault) → Tells (first_of (structure_tests order_950 fs)) e → Fails e (mt950_of t fs)
  unfolding mt950_of
  structure-950 e h = structure-fails order_950 (content_test t (entry_decimals t fs there)) fs (said >>= ruled) e h

  as-said : first_of (structure_tests order_950 fs) ≡ None → mt950_of t fs ≡ (said >>= ruled)
  unfolding mt950_of
  as-said sound =
      in-turn order_950 (content_test t (entry_decimals t fs there)) fs (said >>= ruled) sound
      (λ fault lies. fails-before said ruled fault (refused t fs there fault lies))

  module _ (found : List ℕ) (sound : first_of (structure_tests order_950 fs) ≡ None) (same : found ≡ places_from order_950 0 fs) where
    pub said-fails : (e : MtFault) → Fails e (said_of t fs found) → Fails e (mt950_of t fs)
    said-fails faults.Memory h = tt
    said-fails (faults.Bad fault) h = as-said sound ∙ fails-before said ruled fault (rw same at h)

    pub rule-fails : (s : Said) (fault : Fault) → said_of t fs found ≡ Ok s → first_of (currency_rules s) ≡ Some fault → mt950_of t fs ≡ Err fault
    rule-fails s fault says h = as-said sound ∙ rw (← same, says) (stopped (currency_rules s) fault (Ok (page_of s)) h)

    pub rules-hold : (s : Said) → said_of t fs found ≡ Ok s → first_of (currency_rules s) ≡ None → mt950_of t fs ≡ Ok (page_of s)
    rules-hold s says h = as-said sound ∙ rw (← same, says) (gone-on (currency_rules s) (Ok (page_of s)) h)
