-- The outcome of the tests of an MT103, in their order.
use Rattle.std.proofs.Common.{◌≡◌, ℕ, List, [], ◌∷◌, Option, Some, None, IfSome, Result, Ok, Err, refl, sym, ◌∙◌}
use Rattle.corr_text.specs.First.{first_of, ◌>>=◌}
use Rattle.corr_text.specs.declared.fault.Fault.{Fault}
use Rattle.ref_tables.specs.Seen.{Tables}
use Rattle.fin_fields.specs.declared.field.Field.{Field}
use Rattle.fin_layout.specs.Naming.{absent}
use Rattle.fin_layout.specs.Order.{missing_from, places_from}
use Rattle.fin_layout.specs.Reading.{Tells}
use Rattle.fin_layout.specs.inner.Reading.{Fails}
use Rattle.fin_layout.specs.Tests.{misplaced, passed, structure_tests}
use Rattle.fin_layout.specs.declared.fault.MtFault.{MtFault}
use Rattle.fin_layout.specs.declared.fault.MtFault.TheVariants as faults
use Rattle.fin_layout.proofs.laws.Fine.{passed-fails, passed-on}
use Rattle.fin_layout.proofs.laws.InOrder.{fails-before, in-turn, structure-fails}
use Rattle.mt103.specs.Instructions.{d98, e46}
use Rattle.mt103.specs.Message.{content_test, contents_of, mt103_of}
use Rattle.mt103.specs.inner.Parts.{contents_into}
use Rattle.mt103.specs.declared.instruction.Instr.{Instr}
use Rattle.mt103.specs.declared.message.Mt103.{Mt103}
use Rattle.mt103.specs.Order.{order_103}
use Rattle.mt103.proofs.Refused.{contents-refused}
use Rattle.mt103.proofs.Taken.{has-all}
use Rattle.mt103.proofs.laws.Parts.{into-are}

abbrev pub finished : Mt103 → Result Mt103 Fault
finished m = passed (e46 m.instrs ∷ d98 m.instrs ∷ []) >>= λ _. Ok m

abbrev pub said_by : Tables → List Field → Result Mt103 Fault
said_by t fs = contents_of t fs (places_from order_103 0 fs)

module _ (t : Tables) (fs : List Field) where
  pub structure-fail : (e : MtFault) → Tells (first_of (structure_tests order_103 fs)) e → Fails e (mt103_of t fs)
  unfolding mt103_of
  structure-fail e h = structure-fails order_103 (content_test t) fs (said_by t fs >>= finished) e h

  module _ (sound : first_of (structure_tests order_103 fs) ≡ None) where
    pub as-contents : mt103_of t fs ≡ (said_by t fs >>= finished)
    unfolding mt103_of
    as-contents = in-turn order_103 (content_test t) fs (said_by t fs >>= finished) sound (λ fault lies. fails-before (said_by t fs) finished fault (contents-refused t fs (places_from order_103 0 fs) fault lies))

    module _ (found : List ℕ) (places : found ≡ places_from order_103 0 fs) (old : Mt103) where
      pub contents-fail : (e : MtFault) → Fails e (contents_into t fs found old) → Fails e (mt103_of t fs)
      contents-fail faults.Memory h = tt
      contents-fail (faults.Bad fault) h =
          let said : contents_of t fs found ≡ Err fault = sym (into-are t fs found old) ∙ h in
          as-contents ∙ fails-before (said_by t fs) finished fault (rw places at said)

      module _ (m : Mt103) (parts : contents_into t fs found old ≡ Ok m) (instrs : List Instr) (same : instrs ≡ m.instrs) where
        said : contents_of t fs found ≡ Ok m
        said = sym (into-are t fs found old) ∙ parts

        pub instrs-fail : (fault : Fault) → first_of (e46 instrs ∷ d98 instrs ∷ []) ≡ Some fault → mt103_of t fs ≡ Err fault
        instrs-fail fault h = as-contents ∙ rw (rw places at said) (passed-fails (first_of (e46 m.instrs ∷ d98 m.instrs ∷ [])) (Ok m) (faults.Bad fault) (rw same at h))

        pub all-pass : first_of (e46 instrs ∷ d98 instrs ∷ []) ≡ None → mt103_of t fs ≡ Ok m
        all-pass h = as-contents ∙ rw (rw places at said) (passed-on (first_of (e46 m.instrs ∷ d98 m.instrs ∷ [])) (Ok m) (rw same at h))

  -- a field that the order doesn't allow at its place
  pub place-fail : (e : MtFault) → Tells (misplaced order_103 fs) e → Fails e (mt103_of t fs)
  place-fail faults.Memory h = tt
  place-fail (faults.Bad fault) h = structure-fail (faults.Bad fault) (rw h refl)

  module _ (fit : misplaced order_103 fs ≡ None) (found : List ℕ) (places : found ≡ places_from order_103 0 fs) (old : Mt103) where
    sound-where : missing_from 0 order_103 found ≡ None → first_of (structure_tests order_103 fs) ≡ None
    sound-where whole = rw (fit, rw places at whole) refl

    -- contents that aren't read: a field that is missing is told before their fault
    pub unread : (e told : MtFault) → Fails e (contents_into t fs found old) → IfSome (missing_from 0 order_103 found) (λ k. told ≡ faults.Bad (absent order_103 k)) → (missing_from 0 order_103 found ≡ None → told ≡ e) → Fails told (mt103_of t fs)
    unread e told fails lacks none = go (missing_from 0 order_103 found) refl
      where
        go : (o : Option ℕ) → missing_from 0 order_103 found ≡ o → Fails told (mt103_of t fs)
        go None whole = rw (none whole) (contents-fail (sound-where whole) found places old e fails)
        go (Some k) is =
            let tells : told ≡ faults.Bad (absent order_103 k) = rw is at lacks in
            rw tells (structure-fail (faults.Bad (absent order_103 k)) (rw (fit, rw places at is) refl))

    -- contents that are read: no field is missing
    pub sound-read : (m : Mt103) → contents_into t fs found old ≡ Ok m → first_of (structure_tests order_103 fs) ≡ None
    sound-read m parts = sound-where (has-all t fs found m (sym (into-are t fs found old) ∙ parts))
