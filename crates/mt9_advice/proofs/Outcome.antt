-- The outcome of the tests of an advice, in their order.
use Rattle.std.proofs.Common.{◌≡◌, ℕ, List, [], ◌∷◌, Some, None, Result, Ok, Err, refl, sym, subst, ◌∙◌}
use Rattle.corr_text.specs.First.{first_of, ◌>>=◌}
use Rattle.corr_text.specs.declared.fault.Fault.{Fault}
use Rattle.ref_tables.specs.Seen.{Tables}
use Rattle.fin_fields.specs.declared.field.Field.{Field}
use Rattle.fin_layout.specs.Order.{places_from}
use Rattle.fin_layout.specs.Reading.{Gives, Tells}
use Rattle.fin_layout.specs.inner.Reading.{Fails}
use Rattle.fin_layout.specs.Tests.{passed, structure_tests}
use Rattle.fin_layout.specs.declared.fault.MtFault.{MtFault}
use Rattle.fin_layout.specs.declared.fault.MtFault.TheVariants as faults
use Rattle.fin_layout.proofs.laws.InOrder.{fails-before, in-turn, structure-fails}
use Rattle.mt9_advice.specs.Advice.{c06, content_test, contents_900, contents_910, mt900_of, mt910_of}
use Rattle.mt9_advice.specs.inner.Parts.{parts_900, parts_910}
use Rattle.mt9_advice.specs.declared.credit.Mt910.{Mt910}
use Rattle.mt9_advice.specs.declared.debit.Mt900.{Mt900}
use Rattle.mt9_advice.specs.Order.{order_900, order_910}
use Rattle.mt9_advice.proofs.Refused.{refused-900, refused-910}
use Rattle.mt9_advice.proofs.laws.Parts.{contents-are-900, contents-are-910}

abbrev ruled : Mt910 → Result Mt910 Fault
ruled m = passed (c06 m ∷ []) >>= λ _. Ok m

module _ (t : Tables) (fs : List Field) where
  abbrev said_900 : Result Mt900 Fault
  said_900 = contents_900 t fs (places_from order_900 0 fs)

  abbrev said_910 : Result Mt910 Fault
  said_910 = contents_910 t fs (places_from order_910 0 fs)

  pub structure-900 : (e : MtFault) → Tells (first_of (structure_tests order_900 fs)) e → Fails e (mt900_of t fs)
  unfolding mt900_of
  structure-900 e h = structure-fails order_900 (content_test 6 t) fs said_900 e h

  pub structure-910 : (e : MtFault) → Tells (first_of (structure_tests order_910 fs)) e → Fails e (mt910_of t fs)
  unfolding mt910_of
  structure-910 e h = structure-fails order_910 (content_test 8 t) fs (said_910 >>= ruled) e h

  pub as-contents-900 : first_of (structure_tests order_900 fs) ≡ None → mt900_of t fs ≡ said_900
  unfolding mt900_of
  as-contents-900 sound = in-turn order_900 (content_test 6 t) fs said_900 sound (λ fault lies. refused-900 t fs (places_from order_900 0 fs) fault lies)

  pub as-contents-910 : first_of (structure_tests order_910 fs) ≡ None → mt910_of t fs ≡ (said_910 >>= ruled)
  unfolding mt910_of
  as-contents-910 sound =
      in-turn order_910 (content_test 8 t) fs (said_910 >>= ruled) sound
      (λ fault lies. fails-before said_910 ruled fault (refused-910 t fs (places_from order_910 0 fs) fault lies))

  -- what is read of an MT900 at the places of its fields
  pub gives-900 : (found : List ℕ) (r : Result Mt900 MtFault) → first_of (structure_tests order_900 fs) ≡ None → found ≡ places_from order_900 0 fs
      → Gives r (parts_900 t fs found) → Gives r (mt900_of t fs)
  gives-900 found r sound same h =
      let said : Gives r (contents_900 t fs found) = subst (λ (x : Result Mt900 Fault). Gives r x) (contents-are-900 t fs found) h in
      rw (as-contents-900 sound, ← same) said

  module _ (found : List ℕ) (sound : first_of (structure_tests order_910 fs) ≡ None) (same : found ≡ places_from order_910 0 fs) where
    pub contents-910 : (e : MtFault) → Fails e (parts_910 t fs found) → Fails e (mt910_of t fs)
    contents-910 faults.Memory h = tt
    contents-910 (faults.Bad fault) h =
        let refused : contents_910 t fs found ≡ Err fault = sym (contents-are-910 t fs found) ∙ h in
        as-contents-910 sound ∙ fails-before said_910 ruled fault (rw same at refused)

    pub rule-fails : (m : Mt910) (fault : Fault) → contents_910 t fs found ≡ Ok m → c06 m ≡ Some fault → mt910_of t fs ≡ Err fault
    rule-fails m fault said h = as-contents-910 sound ∙ rw (← same, said, h) refl

    pub rule-holds : (m : Mt910) → contents_910 t fs found ≡ Ok m → c06 m ≡ None → mt910_of t fs ≡ Ok m
    rule-holds m said h = as-contents-910 sound ∙ rw (← same, said, h) refl
