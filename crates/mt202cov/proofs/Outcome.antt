-- The outcome of the tests of an MT202 COV, in their order.
use Rattle.std.proofs.Common.{◌≡◌, List, Some, None, Result, Ok, Err, sym, ◌∙◌, ap}
use Rattle.std.specs.Prelude.{ℕ}
use Rattle.corr_text.specs.First.{first_of, ◌>>=◌}
use Rattle.corr_text.specs.declared.fault.Fault.{Fault}
use Rattle.ref_tables.specs.Seen.{Tables}
use Rattle.fin_fields.specs.declared.field.Field.{Field}
use Rattle.fin_layout.specs.Order.{places_from}
use Rattle.fin_layout.specs.Reading.{Tells}
use Rattle.fin_layout.specs.inner.Reading.{Fails}
use Rattle.fin_layout.specs.Tests.{passed, structure_tests}
use Rattle.fin_layout.specs.declared.fault.MtFault.{MtFault}
use Rattle.fin_layout.specs.declared.fault.MtFault.TheVariants as faults
use Rattle.fin_layout.proofs.laws.Fine.{passed-fails, passed-on}
use Rattle.fin_layout.proofs.laws.InOrder.{fails-before, in-turn, structure-fails}
use Rattle.mt202cov.specs.Message.{content_test, contents_of, mt202cov_of}
use Rattle.mt202cov.specs.inner.Parts.{contents_in_parts}
use Rattle.mt202cov.specs.Rules.{all_rules}
use Rattle.mt202cov.specs.declared.message.Mt202Cov.{Mt202Cov}
use Rattle.mt202cov.specs.Order.{order_202}
use Rattle.mt202cov.proofs.Refused.{contents-refused}
use Rattle.mt202cov.proofs.laws.Parts.{contents-are}

abbrev finished : Mt202Cov → Result Mt202Cov Fault
finished m = passed (all_rules m) >>= λ _. Ok m

abbrev after_structure : Tables → List Field → List ℕ → Result Mt202Cov Fault
after_structure t fs found = contents_of t fs found >>= finished

module _ (t : Tables) (fs : List Field) where
  pub structure-fail : (e : MtFault) → Tells (first_of (structure_tests order_202 fs)) e → Fails e (mt202cov_of t fs)
  unfolding mt202cov_of
  structure-fail e h = structure-fails order_202 (content_test t) fs (after_structure t fs (places_from order_202 0 fs)) e h

  in-contents : first_of (structure_tests order_202 fs) ≡ None → mt202cov_of t fs ≡ after_structure t fs (places_from order_202 0 fs)
  unfolding mt202cov_of
  in-contents sound =
      in-turn order_202 (content_test t) fs (after_structure t fs (places_from order_202 0 fs)) sound
      (λ fault l. fails-before (contents_of t fs (places_from order_202 0 fs)) finished fault (contents-refused t fs (places_from order_202 0 fs) fault l))

  module _ (found : List ℕ) (placed : found ≡ places_from order_202 0 fs) (sound : first_of (structure_tests order_202 fs) ≡ None) where
    from-contents : mt202cov_of t fs ≡ after_structure t fs found
    from-contents = in-contents sound ∙ ap (after_structure t fs) (sym placed)

    pub contents-fail : (e : MtFault) → Fails e (contents_in_parts t fs found) → Fails e (mt202cov_of t fs)
    contents-fail faults.Memory h = tt
    contents-fail (faults.Bad fault) h =
        let refused : contents_of t fs found ≡ Err fault = sym (contents-are t fs found) ∙ h in
        from-contents ∙ fails-before (contents_of t fs found) finished fault refused

    module _ (m : Mt202Cov) (said : contents_of t fs found ≡ Ok m) where
      rules-fail : (fault : Fault) → first_of (all_rules m) ≡ Some fault → mt202cov_of t fs ≡ Err fault
      rules-fail fault h = from-contents ∙ rw said (passed-fails (first_of (all_rules m)) (Ok m) (faults.Bad fault) h)

      pub all-pass : first_of (all_rules m) ≡ None → mt202cov_of t fs ≡ Ok m
      all-pass h = from-contents ∙ rw said (passed-on (first_of (all_rules m)) (Ok m) h)

    module _ (m : Mt202Cov) (parts : contents_in_parts t fs found ≡ Ok m) where
      -- the cover that the contents say breaks this rule
      pub refused : (fault : Fault) → first_of (all_rules m) ≡ Some fault → mt202cov_of t fs ≡ Err fault
      refused fault h = rules-fail m (sym (contents-are t fs found) ∙ parts) fault h

      -- it breaks none
      pub accepted : first_of (all_rules m) ≡ None → mt202cov_of t fs ≡ Ok m
      accepted h = all-pass m (sym (contents-are t fs found) ∙ parts) h
