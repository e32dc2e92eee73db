-- The outcome of the tests of an MT940, by that of the MT950 beside its 86.
use Rattle.std.proofs.Common.{◌≡◌, ℕ, suc, ◌==◌, ◌⊎◌, Bool, true, false, List, [], ◌∷◌, length, take, Option, Some, None, Result, Ok, Err, refl, sym, ap, ◌∙◌, subst, inl, inr}
use Rattle.std.proofs.lemmas.Bool.{cases_Bool, eqb-true, eq-eqb}
use Rattle.corr_text.specs.Codes.{code}
use Rattle.corr_text.specs.First.{first_of, unless, unless_fault, ◌>>=◌}
use Rattle.corr_text.specs.declared.fault.Fault.{Fault}
use Rattle.ref_tables.specs.Seen.{Tables}
use Rattle.fin_fields.specs.declared.field.Field.{Field}
use Rattle.fin_layout.specs.Naming.{fault_at}
use Rattle.fin_layout.specs.Order.{free_after, places_from}
use Rattle.fin_layout.specs.Reading.{Tells}
use Rattle.fin_layout.specs.inner.Reading.{Fails}
use Rattle.fin_layout.specs.Tests.{lacking, misplaced}
use Rattle.fin_layout.specs.declared.fault.MtFault.{MtFault}
use Rattle.fin_layout.specs.declared.fault.MtFault.TheVariants as faults
use Rattle.fin_layout.proofs.laws.Fine.{first-none, passed-fails}
use Rattle.mt950.specs.Order.{order_950}
use Rattle.mt950.specs.Page.{mt950_of, page_of, said_of, tests_950}
use Rattle.mt950.specs.Rules.{currency_rules}
use Rattle.mt950.specs.declared.page.Page950.{Page950}
use Rattle.mt950.specs.declared.said.Said.{Said}
use Rattle.mt950.proofs.laws.Pages.{fields-pass-950}
use Rattle.mt940_out.specs.inner.Faults.{earlier_fault, first_bad_note, is_ahead, structure_940}
use Rattle.mt940_out.specs.Order.{fields_beside, is_line, notes_of, places_940, without_notes}
use Rattle.mt940_out.specs.Page.{decimals_940, misplaced_940, mt940_of, tests_940}
use Rattle.mt940_out.specs.declared.page.Page940.{Page940}
use Rattle.mt940_out.proofs.Contents.{chosen, first_950, merged}
use Rattle.mt940_out.proofs.Counts.{no-counts}
use Rattle.mt940_out.proofs.Front.{AllPlaced, placed-next, placed-note, rule-behind}
use Rattle.mt940_out.proofs.Steps.{Step, next-place, places-unplaced, step-of, without-field, without-note}

-- ---- each field beside takes a place where all do

abbrev BesidePlaced : List Field → Type 0
BesidePlaced fs = (free : ℕ) (behind : Bool) → AllPlaced free behind fs → length (places_from order_950 free (without_notes behind fs)) ≡ length (without_notes behind fs)

module _ (f : Field) (fs : List Field) (later : BesidePlaced fs) (free : ℕ) (behind : Bool) (len : AllPlaced free behind (f ∷ fs)) where
  abbrev Long : List Field → Type 0
  Long gs = length (places_from order_950 free gs) ≡ length gs

  placed-step : Step free behind f fs → Long (without_notes behind (f ∷ fs))
  placed-step (inl met) = subst Long (sym (without-note free behind f fs met)) (later free false (placed-note free behind f fs met len))
  placed-step (inr (unmet, inl none)) = absurd (cc (sym (ap length (places-unplaced free behind f fs unmet none)) ∙ len))
  placed-step (inr (unmet, inr (k, takes))) =
      let others : List Field = without_notes (is_line f) fs in
      let more = later (free_after order_950 k) (is_line f) (placed-next free behind f fs unmet k takes len) in
      let here : Long (f ∷ others) = ap length (next-place free f others k takes) ∙ ap suc more in
      subst Long (sym (without-field free behind f fs unmet)) here

placed-end : (free : ℕ) → length (places_from order_950 free []) ≡ 0
unfolding places_from
placed-end free = refl

pub beside-placed : (fs : List Field) → BesidePlaced fs
beside-placed [] = λ free behind len. placed-end free
beside-placed (f ∷ fs) = λ free behind len. placed-step f fs (beside-placed fs) free behind len (step-of free behind f fs)

-- ---- tests

pub held : (b : Bool) (fault : Fault) → unless b fault ≡ None → b ≡ true
held true fault e = refl
held false fault e = absurd (cc e)

pub kept : (b : Bool) (fault : Fault) → b ≡ true → unless b fault ≡ None
kept b fault e = rw e refl

two-first : (a b : Option Fault) (more : List (Option Fault)) (fault : Fault) → first_of (a ∷ b ∷ []) ≡ Some fault → first_of (a ∷ b ∷ more) ≡ Some fault
two-first (Some x) b more fault e = e
two-first None (Some y) more fault e = e
two-first None None more fault e = absurd (cc e)

pub two-none : (a b : Option Fault) (more : List (Option Fault)) → a ≡ None → b ≡ None → first_of (a ∷ b ∷ more) ≡ first_of more
two-none a b more e f = rw (e, f) refl

fault-cases : (o : Option Fault) → (o ≡ None) ⊎ ((fault : Fault) × (o ≡ Some fault))
fault-cases None = inl refl
fault-cases (Some fault) = inr (fault, refl)

stopped : {A : Type 0} (first : Option Fault) (fault : Fault) (next : Result A Fault) → first ≡ Some fault → (unless_fault first >>= λ _. next) ≡ Err fault
stopped first fault next e = rw e refl

gone-on : {A : Type 0} (first : Option Fault) (next : Result A Fault) → first ≡ None → (unless_fault first >>= λ _. next) ≡ next
gone-on first next e = rw e refl

-- where no test of an MT950's fields fails they say balances and lines
abbrev pub Completes : Tables → List Field → Type 0
Completes t fs = first_of (tests_950 t fs) ≡ None → (said : Said) × (said_of t fs (places_from order_950 0 fs) ≡ Ok said)

module _ (t : Tables) (fs : List Field) where
  abbrev pub beside : List Field
  beside = fields_beside fs

  -- a page with notes
  abbrev given : Page950 → List (List (List ℕ)) → Result Page940 Fault
  given page notes = Ok (record { page = page; notes = notes })

  -- the page, with the notes of these fields
  abbrev pub with_page : Page950 → Result Page940 Fault
  with_page page = given page (notes_of fs)

  by-tests : mt940_of t fs ≡ (unless_fault (first_of (tests_940 t fs)) >>= λ _. mt950_of t beside >>= with_page)
  unfolding mt940_of
  by-tests = refl

  pub tests-fail : (e : MtFault) → Tells (first_of (tests_940 t fs)) e → Fails e (mt940_of t fs)
  unfolding mt940_of
  tests-fail e h = passed-fails (first_of (tests_940 t fs)) (mt950_of t beside >>= with_page) e h

  pub structure-fails : (e : MtFault) → Tells (first_of (structure_940 fs)) e → Tells (first_of (tests_940 t fs)) e
  structure-fails faults.Memory h = tt
  structure-fails (faults.Bad fault) h = two-first (misplaced_940 fs) (lacking order_950 beside) _ fault h

  -- ---- where each field stands at its place

  module _ (sound : first_of (structure_940 fs) ≡ None) where
    pub all-placed : AllPlaced 0 false fs
    all-placed =
        let one = first-none (misplaced_940 fs) (lacking order_950 beside ∷ []) sound in
        eqb-true (length (places_940 0 false fs)) (length fs) (held (length (places_940 0 false fs) == length fs) _ one.0)

    none-lacking : lacking order_950 beside ≡ None
    none-lacking = (first-none (lacking order_950 beside) [] (first-none (misplaced_940 fs) (lacking order_950 beside ∷ []) sound).1).0

    beside-sound : misplaced order_950 beside ≡ None
    beside-sound =
        kept (length (places_from order_950 0 beside) == length beside) _
        (eq-eqb (length (places_from order_950 0 beside)) (length beside) (beside-placed fs 0 false all-placed))

    tests-beside : first_of (tests_950 t beside) ≡ first_950 t (decimals_940 t fs) 0 beside 0 beside
    tests-beside = two-none (misplaced order_950 beside) (lacking order_950 beside) _ beside-sound none-lacking

    pub tests-whole : first_of (tests_940 t fs) ≡ chosen fs (first_bad_note 0 false fs) (first_of (tests_950 t beside))
    tests-whole =
        let misplaced_none = (first-none (misplaced_940 fs) (lacking order_950 beside ∷ []) sound).0 in
        two-none (misplaced_940 fs) (lacking order_950 beside) _ misplaced_none none-lacking
        ∙ merged t (decimals_940 t fs) fs 0 false fs [] beside [] 0 0
        (record { whole_is = refl; at = refl; all_is = refl; beside_at = refl; counts = no-counts }) all-placed
        ∙ ap (λ (o : Option Fault). chosen fs (first_bad_note 0 false fs) o) (sym tests-beside)

  -- what the MT950 beside tells
  tests-tell : (fault : Fault) → first_of (tests_950 t beside) ≡ Some fault → mt950_of t beside ≡ Err fault
  unfolding mt950_of
  tests-tell fault e = stopped (first_of (tests_950 t beside)) fault _ e

  -- where no test of its fields fails the rules decide
  abbrev ruled : Said → Option Fault → Result Page950 Fault
  ruled said first = unless_fault first >>= λ _. Ok (page_of said)

  by-rules : (said : Said) → first_of (tests_950 t beside) ≡ None → said_of t beside (places_from order_950 0 beside) ≡ Ok said
      → mt950_of t beside ≡ ruled said (first_of (currency_rules said))
  unfolding mt950_of
  by-rules said none says = gone-on (first_of (tests_950 t beside)) _ none ∙ rw says refl

  rule-of : (said : Said) (fault : Fault) (first : Option Fault) → ruled said first ≡ Err fault → first ≡ Some fault
  rule-of said fault None e = absurd (cc e)
  rule-of said fault (Some x) e = let same : x ≡ fault = cc e in ap (λ (y : Fault). Some y) same

  rules-tell : (said : Said) (fault : Fault) → first_of (tests_950 t beside) ≡ None → said_of t beside (places_from order_950 0 beside) ≡ Ok said
      → mt950_of t beside ≡ Err fault → first_of (currency_rules said) ≡ Some fault
  rules-tell said fault none says e = rule-of said fault (first_of (currency_rules said)) (sym (by-rules said none says) ∙ e)

  -- ---- no 86 of another form

  module _ (sound : first_of (structure_940 fs) ≡ None) (good : first_bad_note 0 false fs ≡ None) where
    same-tests : first_of (tests_940 t fs) ≡ first_of (tests_950 t beside)
    same-tests = tests-whole sound ∙ ap (λ (b : Option ℕ). chosen fs b (first_of (tests_950 t beside))) good

    bad-beside : (fault : Fault) → mt950_of t beside ≡ Err fault → (first_of (tests_950 t beside) ≡ None) ⊎ ((x : Fault) × (first_of (tests_950 t beside) ≡ Some x))
        → mt940_of t fs ≡ Err fault
    bad-beside fault e (inl none) =
        by-tests ∙ gone-on (first_of (tests_940 t fs)) (mt950_of t beside >>= with_page) (same-tests ∙ none) ∙ ap (λ (r : Result Page950 Fault). r >>= with_page) e
    bad-beside fault e (inr (x, some)) =
        let same : x ≡ fault = cc (sym (tests-tell x some) ∙ e) in
        by-tests ∙ stopped (first_of (tests_940 t fs)) fault (mt950_of t beside >>= with_page) (same-tests ∙ some ∙ ap (λ (y : Fault). Some y) same)

    pub beside-fails : (e : MtFault) → Fails e (mt950_of t beside) → Fails e (mt940_of t fs)
    beside-fails faults.Memory h = tt
    beside-fails (faults.Bad fault) h = bad-beside fault h (fault-cases (first_of (tests_950 t beside)))

    pub beside-read : (page : Page950) (notes : List (List (List ℕ))) → mt950_of t beside ≡ Ok page → notes ≡ notes_of fs
        → mt940_of t fs ≡ Ok (record { page = page; notes = notes })
    beside-read page notes e same =
        by-tests ∙ gone-on (first_of (tests_940 t fs)) (mt950_of t beside >>= with_page) (same-tests ∙ fields-pass-950 t beside page e)
        ∙ ap (λ (r : Result Page950 Fault). r >>= with_page) e ∙ ap (given page) (sym same)

  -- ---- the first 86 of another form

  module _ (sound : first_of (structure_940 fs) ≡ None) (n : ℕ) (bad : first_bad_note 0 false fs ≡ Some n) where
    at-bad : first_of (tests_940 t fs) ≡ chosen fs (Some n) (first_of (tests_950 t beside))
    at-bad = tests-whole sound ∙ ap (λ (b : Option ℕ). chosen fs b (first_of (tests_950 t beside))) bad

    note-told : first_of (tests_950 t beside) ≡ None → first_of (tests_940 t fs) ≡ Some (fault_at fs n (code "P24"))
    note-told none = at-bad ∙ ap (λ (o : Option Fault). chosen fs (Some n) o) none

    -- a page beside: the 86 is at fault
    page-beside : (page : Page950) → mt950_of t beside ≡ Ok page → first_of (tests_940 t fs) ≡ Some (fault_at fs n (code "P24"))
    page-beside page e = note-told (fields-pass-950 t beside page e)

    module _ (fault : Fault) (e : mt950_of t beside ≡ Err fault) where
      abbrev Cases : Type 0
      Cases = (first_of (tests_950 t beside) ≡ None) ⊎ ((x : Fault) × (first_of (tests_950 t beside) ≡ Some x))

      told-so : (x : Fault) → first_of (tests_950 t beside) ≡ Some x → first_of (tests_950 t beside) ≡ Some fault
      told-so x some = some ∙ ap (λ (y : Fault). Some y) (cc (sym (tests-tell x some) ∙ e))

      ahead-by : Completes t beside → is_ahead (take n fs) fault ≡ true → Cases → first_of (tests_940 t fs) ≡ Some fault
      ahead-by complete met (inl none) =
          let (said, says) = complete none in
          let unmet = rule-behind said fault fs n (all-placed sound) bad (rules-tell said fault none says e) in
          absurd (cc (sym met ∙ unmet))
      ahead-by complete met (inr (x, some)) = at-bad ∙ ap (λ (o : Option Fault). chosen fs (Some n) o) (told-so x some) ∙ rw met refl

      -- a fault ahead of it
      ahead-told : Completes t beside → is_ahead (take n fs) fault ≡ true → first_of (tests_940 t fs) ≡ Some fault
      ahead-told complete met = ahead-by complete met (fault-cases (first_of (tests_950 t beside)))

      behind-by : is_ahead (take n fs) fault ≡ false → Cases → first_of (tests_940 t fs) ≡ Some (fault_at fs n (code "P24"))
      behind-by unmet (inl none) = note-told none
      behind-by unmet (inr (x, some)) = at-bad ∙ ap (λ (o : Option Fault). chosen fs (Some n) o) (told-so x some) ∙ rw unmet refl

      -- a fault behind it
      behind-told : is_ahead (take n fs) fault ≡ false → first_of (tests_940 t fs) ≡ Some (fault_at fs n (code "P24"))
      behind-told unmet = behind-by unmet (fault-cases (first_of (tests_950 t beside)))

      by-place : Completes t beside → (is_ahead (take n fs) fault ≡ true) ⊎ (is_ahead (take n fs) fault ≡ false)
          → first_of (tests_940 t fs) ≡ Some (earlier_fault fs n fault)
      by-place complete (inl met) = ahead-told complete met ∙ rw met refl
      by-place complete (inr unmet) = behind-told unmet ∙ rw unmet refl

      -- either
      fault-beside : Completes t beside → first_of (tests_940 t fs) ≡ Some (earlier_fault fs n fault)
      fault-beside complete = by-place complete (cases_Bool (is_ahead (take n fs) fault))

-- what fields tell that are those beside
module _ (t : Tables) (fs gs : List Field) (same : gs ≡ fields_beside fs) (sound : first_of (structure_940 fs) ≡ None) (n : ℕ) (bad : first_bad_note 0 false fs ≡ Some n) where
  pub page-told : (page : Page950) → mt950_of t gs ≡ Ok page → first_of (tests_940 t fs) ≡ Some (fault_at fs n (code "P24"))
  page-told page e = page-beside t fs sound n bad page (ap (mt950_of t) (sym same) ∙ e)

  pub fault-told : (fault : Fault) → mt950_of t gs ≡ Err fault → Completes t gs → first_of (tests_940 t fs) ≡ Some (earlier_fault fs n fault)
  fault-told fault e complete = fault-beside t fs sound n bad fault (ap (mt950_of t) (sym same) ∙ e) (subst (Completes t) same complete)
