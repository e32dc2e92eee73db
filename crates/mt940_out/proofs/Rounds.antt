-- A page with notes is read of the fields that it is written as.
use Rattle.std.proofs.Common.{◌≡◌, ℕ, suc, ◌+◌, ◌==◌, ◌&&◌, ◌||◌, Bool, true, false, cond, List, [], ◌∷◌, ◌++◌, length, map, take, Option, Some, None, Result, Ok, refl, sym, ap, ◌∙◌, subst, arith}
use Rattle.std.specs.Prelude.{codes}
use Rattle.std.specs.List.{All, AllByRecursion}
use Rattle.std.proofs.lemmas.Bool.{eqb-true, eq-eqb}
use Rattle.std.proofs.lemmas.Bool.Decides.{nat_tests}
use Rattle.std.proofs.lemmas.List.Elements.{All-from_recursion, recursion_from_All}
use Rattle.corr_text.specs.Codes.{code}
use Rattle.corr_text.specs.First.{first_of, ◌>>=◌}
use Rattle.corr_text.specs.declared.fault.Code.{Code}
use Rattle.corr_text.specs.declared.fault.Fault.{Fault}
use Rattle.corr_money.specs.declared.amount.Ccy.{Ccy}
use Rattle.ref_tables.specs.Seen.{Tables}
use Rattle.fin_fields.specs.Faults.{letter_of}
use Rattle.fin_fields.specs.Writing.{IsField}
use Rattle.fin_fields.specs.declared.field.Field.{Field}
use Rattle.fin_layout.specs.Contents.{all_from, in_option, in_place, located}
use Rattle.fin_layout.specs.Naming.{fault_at}
use Rattle.fin_layout.specs.Order.{places_from}
use Rattle.fin_layout.specs.Tests.{lacking, misplaced, passed}
use Rattle.fin_layout.proofs.laws.Fine.{first-none}
use Rattle.fin_layout.proofs.laws.Passed.{passed-none}
use Rattle.fin_contents.specs.Plain.{reference_of, short_line_of}
use Rattle.fin_contents.specs.Writing.{IsReadable, some_field}
use Rattle.fin_contents.proofs.laws.Said.{HoldsInPlaces, stand}
use Rattle.fin_contents.proofs.laws.Steps.{read-then}
use Rattle.mt950.specs.Balances.{stated_of}
use Rattle.mt950.specs.Entry.{line_of}
use Rattle.mt950.specs.Number.{numbers_of}
use Rattle.mt950.specs.Order.{order_950}
use Rattle.mt950.specs.Page.{mt950_of, page_of, said_of, tests_950}
use Rattle.mt950.specs.Rules.{currency_rules}
use Rattle.mt950.specs.Writing.{balance_field, fields_950, line_field_61}
use Rattle.mt950.specs.declared.balance.Balance.{Balance}
use Rattle.mt950.specs.declared.entry.Line61.{Line61}
use Rattle.mt950.specs.declared.page.Page950.{Page950}
use Rattle.mt950.specs.declared.said.Said.{Said}
use Rattle.mt950.proofs.laws.Pages.{fields-fit-950, fields-pass-950, page-readable, page-reads-back, readable-page}
use Rattle.advices.specs.Fields.{is_named}
use Rattle.advices.proofs.laws.Finding.{Agrees, agree}
use Rattle.mt940_out.specs.inner.Faults.{first_bad_note, is_ahead, structure_940}
use Rattle.mt940_out.specs.Order.{fields_beside, is_line, notes_of, places_940}
use Rattle.mt940_out.specs.Page.{misplaced_940, mt940_of, tests_940}
use Rattle.mt940_out.specs.Writing.{fields_940, with_notes}
use Rattle.mt940_out.specs.inner.Writing.{IsNote}
use Rattle.mt940_out.specs.declared.page.Page940.{Page940}
use Rattle.mt940_out.proofs.Contents.{chosen}
use Rattle.mt940_out.proofs.Noted.{HasForm, NoNotes, all-fine, all-stay, beside-fit, lines-kept, lines_in, noted-fit, notes-again, notes-count, notes-formed, notes-kept, placed-free, without-with}
use Rattle.mt940_out.proofs.Outcome.{beside-read, held, kept, tests-whole, two-none}

-- ---- a page beside, and notes

module _ (t : Tables) (gs : List Field) (page : Page950) (notes : List (List (List ℕ))) (says : mt950_of t gs ≡ Ok page) (as_many : length notes ≡ lines_in gs)
    (form : AllByRecursion HasForm notes) where
  tests-none : first_of (tests_950 t gs) ≡ None
  tests-none = fields-pass-950 t gs page says

  all-placed : length (places_from order_950 0 gs) ≡ length gs
  all-placed =
      let one = first-none (misplaced order_950 gs) _ tests-none in
      eqb-true (length (places_from order_950 0 gs)) (length gs) (held (length (places_from order_950 0 gs) == length gs) _ one.0)

  lacks-none : lacking order_950 gs ≡ None
  lacks-none = (first-none (lacking order_950 gs) _ (first-none (misplaced order_950 gs) _ tests-none).1).0

  no-notes : NoNotes gs
  no-notes = placed-free gs 0 all-placed

  abbrev whole : List Field
  whole = with_notes notes gs

  beside-is : fields_beside whole ≡ gs
  beside-is = without-with gs notes false no-notes

  sound : first_of (structure_940 whole) ≡ None
  sound =
      two-none (misplaced_940 whole) (lacking order_950 (fields_beside whole)) []
      (kept (length (places_940 0 false whole) == length whole) _ (eq-eqb (length (places_940 0 false whole)) (length whole) (all-stay gs notes 0 false all-placed)))
      (ap (lacking order_950) beside-is ∙ lacks-none)

  pub noted-read : mt940_of t (with_notes notes gs) ≡ Ok (record { page = page; notes = notes })
  noted-read =
      beside-read t whole sound (all-fine gs notes 0 false no-notes form) page notes (ap (mt950_of t) beside-is ∙ says) (sym (notes-again gs notes no-notes as_many))

-- ---- the fields of a page without its notes

lines-free : (decimals : ℕ) (lines : List Line61) → NoNotes (map (line_field_61 decimals) lines)
lines-free decimals [] = tt
lines-free decimals (line ∷ lines) = (refl, lines-free decimals lines)

both-free : (fs gs : List Field) → NoNotes fs → NoNotes gs → NoNotes (fs ++ gs)
both-free [] gs f g = g
both-free (x ∷ fs) gs f g = (f.0, both-free fs gs f.1 g)

available-free : (ccy : Ccy) (decimals : ℕ) (o : Option Balance) → NoNotes (some_field (balance_field 64 None ccy decimals) o ++ [])
available-free ccy decimals None = tt
available-free ccy decimals (Some balance) = (refl, tt)

free-950 : (page : Page950) → NoNotes (fields_950 page)
unfolding fields_950
free-950 page = (
  refl,
  (
    refl,
    (
      refl,
      (
        refl,
        both-free (map (line_field_61 page.decimals) page.lines) _ (lines-free page.decimals page.lines)
            (refl, available-free page.ccy page.decimals page.available),
      ),
    ),
  ),
)

-- they are those of its MT950
pub fields-without : (p : Page940) → fields_beside (fields_940 p) ≡ fields_950 p.page
fields-without p = without-with (fields_950 p.page) p.notes false (free-950 p.page)

-- ---- a page has as many lines as its fields 61

mirrored : (a b : ℕ) → ((a == b) || false) ≡ (b == a)
mirrored a b = grind (arith, nat_tests)

line-named : (f : Field) → is_named 61 (codes " ") f ≡ is_line f
line-named f = ap (λ (b : Bool). (f.tag == 61) && b) (mirrored 32 (letter_of f))

module _ (whole : List Field) (read : Field → Result Line61 Code) where
  abbrev Counts : List ℕ → List Field → Type 0
  Counts found fs = (i : ℕ) (lines : List Line61) → length found ≡ length fs → HoldsInPlaces (Agrees (is_named 61 (codes " ")) 4) found fs
      → all_from whole 4 read i found fs ≡ Ok lines → lines_in fs ≡ length lines

  count-here : (k : ℕ) (found : List ℕ) (f : Field) (fs : List Field) (b : Bool) → Counts found fs → (k == 4) ≡ b → is_line f ≡ b → (i : ℕ) (lines : List Line61) → length found ≡ length fs
      → HoldsInPlaces (Agrees (is_named 61 (codes " ")) 4) found fs
      → cond b (located whole i (read f) >>= λ first. all_from whole 4 read (i + 1) found fs >>= λ others. Ok (first ∷ others)) (all_from whole 4 read (i + 1) found fs) ≡ Ok lines
      → cond b (suc (lines_in fs)) (lines_in fs) ≡ length lines
  count-here k found f fs true later at line i lines len holds e =
      let first = read-then (located whole i (read f)) _ lines e in
      let others = read-then (all_from whole 4 read (i + 1) found fs) _ lines first.2 in
      let same : first.0 ∷ others.0 ≡ lines = cc others.2 in
      ap suc (later (i + 1) others.0 len holds others.1) ∙ ap length same
  count-here k found f fs false later at line i lines len holds e = later (i + 1) lines len holds e

  counted-lines : (found : List ℕ) (fs : List Field) → Counts found fs
  unfolding all_from
  counted-lines [] [] = λ i lines len holds e. let same : [] ≡ lines = cc e in ap length same
  counted-lines [] (f ∷ fs) = λ i lines len holds e. absurd (cc len)
  counted-lines (k ∷ found) [] = λ i lines len holds e. absurd (cc len)
  counted-lines (k ∷ found) (f ∷ fs) = λ i lines len holds e.
      let agrees : is_line f ≡ (k == 4) = sym (line-named f) ∙ holds.0 in
      let here = count-here k found f fs (k == 4) (counted-lines found fs) refl agrees i lines (omega (arith, len)) holds.1 e in
      ap (λ (b : Bool). cond b (suc (lines_in fs)) (lines_in fs)) agrees ∙ here

abbrev said_lines : Said → Result (List Line61) Fault
said_lines said = Ok said.lines

abbrev lines_of : Page950 → Result (List Line61) Fault
lines_of page = Ok page.lines

abbrev page_with : Page940 → Result Page950 Fault
page_with p = Ok p.page

said-lines : (t : Tables) (fs : List Field) (found : List ℕ) (said : Said) → said_of t fs found ≡ Ok said
    → (decimals : ℕ) × (all_from fs 4 (line_of decimals) 0 found fs ≡ Ok said.lines)
unfolding said_of
said-lines t fs found said e =
    let reference = read-then (in_place order_950 fs found 0 reference_of) _ said e in
    let account = read-then (in_place order_950 fs found 1 (short_line_of 35)) _ said reference.2 in
    let numbers = read-then (in_place order_950 fs found 2 numbers_of) _ said account.2 in
    let opening = read-then (in_place order_950 fs found 3 (stated_of t)) _ said numbers.2 in
    let lines = read-then (all_from fs 4 (line_of opening.0.decimals) 0 found fs) _ said opening.2 in
    let closing = read-then (in_place order_950 fs found 5 (stated_of t)) _ said lines.2 in
    let available = read-then (in_option fs found 6 (stated_of t)) _ said closing.2 in
    let same : record {
      reference = reference.0;
      account = account.0;
      numbers = numbers.0;
      opening = opening.0;
      lines = lines.0;
      closing = closing.0;
      available = available.0;
    } ≡ said =
    cc available.2 in
    (opening.0.decimals, lines.1 ∙ ap said_lines same)

page-lines : (t : Tables) (fs : List Field) (page : Page950) → mt950_of t fs ≡ Ok page
    → (decimals : ℕ) × (all_from fs 4 (line_of decimals) 0 (places_from order_950 0 fs) fs ≡ Ok page.lines)
unfolding mt950_of
page-lines t fs page e =
    let tests = read-then (passed (tests_950 t fs)) _ page e in
    let said = read-then (said_of t fs (places_from order_950 0 fs)) _ page tests.2 in
    let rules = read-then (passed (currency_rules said.0)) _ page said.2 in
    let same : page_of said.0 ≡ page = cc rules.2 in
    let lines = said-lines t fs (places_from order_950 0 fs) said.0 said.1 in
    (lines.0, lines.1 ∙ ap lines_of same)

pub lines-read : (t : Tables) (fs : List Field) (page : Page950) → mt950_of t fs ≡ Ok page → lines_in fs ≡ length page.lines
lines-read t fs page e =
    let one = first-none (misplaced order_950 fs) _ (fields-pass-950 t fs page e) in
    let placed : length (places_from order_950 0 fs) ≡ length fs =
    eqb-true (length (places_from order_950 0 fs)) (length fs) (held (length (places_from order_950 0 fs) == length fs) _ one.0) in
    let lines = page-lines t fs page e in
    counted-lines fs (line_of lines.0) (places_from order_950 0 fs) fs 0 page.lines placed
    (agree 61 (codes " ") 4 order_950 (places_from order_950 0 fs) fs refl (stand order_950 (λ _. Unit {0}) 0 fs (λ k d lt. tt))) lines.1

-- ---- a page that was read

chosen-none : (whole : List Field) (bad : Option ℕ) (first : Option Fault) → chosen whole bad first ≡ None → bad ≡ None
chosen-none whole None first e = refl
chosen-none whole (Some n) None e = absurd (cc e)
chosen-none whole (Some n) (Some fault) e = absurd (either (is_ahead (take n whole) fault) fault (fault_at whole n (code "P24")) e)
  where
    either : (b : Bool) (x y : Fault) → cond b (Some x) (Some y) ≡ None → ⊥
    either true x y h = cc h
    either false x y h = cc h

-- what its fields say beside, and their notes
pub record Parts (t : Tables) (fs : List Field) (p : Page940) : Type 0 where
  pub page : mt950_of t (fields_beside fs) ≡ Ok p.page
  pub notes : notes_of fs ≡ p.notes
  pub form : AllByRecursion HasForm p.notes
  pub as_many : length p.notes ≡ length p.page.lines

pub parts : (t : Tables) (fs : List Field) (p : Page940) → mt940_of t fs ≡ Ok p → Parts t fs p
unfolding mt940_of
parts t fs p e =
    let tests = read-then (passed (tests_940 t fs)) _ p e in
    let page = read-then (mt950_of t (fields_beside fs)) _ p tests.2 in
    let same : record { page = page.0; notes = notes_of fs } ≡ p = cc page.2 in
    let none = passed-none (tests_940 t fs) tests.0 tests.1 in
    let one = first-none (misplaced_940 fs) _ none in
    let two = first-none (lacking order_950 (fields_beside fs)) _ one.1 in
    let sound : first_of (structure_940 fs) ≡ None = two-none (misplaced_940 fs) (lacking order_950 (fields_beside fs)) [] one.0 two.0 in
    let good = chosen-none fs (first_bad_note 0 false fs) _ (sym (tests-whole t fs sound) ∙ none) in
    let notes : notes_of fs ≡ p.notes = ap (λ (q : Page940). q.notes) same in
    let says : mt950_of t (fields_beside fs) ≡ Ok p.page = page.1 ∙ ap page_with same in
    record {
      page = says;
      notes = notes;
      form = subst (AllByRecursion HasForm) notes (notes-formed fs 0 false good);
      as_many = ap length (sym notes) ∙ notes-count fs ∙ sym (lines-kept fs false) ∙ lines-read t (fields_beside fs) p.page says;
    }

-- its MT950 can be written
pub page-kept : (p : Page940) → IsReadable mt940_of p → IsReadable mt950_of p.page
page-kept p r = record {
  tables = r.tables;
  few = r.few;
  fields = fields_beside r.fields;
  fit = All-from_recursion IsField (fields_beside r.fields) (beside-fit r.fields false (recursion_from_All IsField r.fields r.fit));
  says = (parts r.tables r.fields p r.says).page;
}

-- and its notes
pub notes-are : (p : Page940) → IsReadable mt940_of p → All IsNote p.notes
notes-are p r =
    subst (All IsNote) (parts r.tables r.fields p r.says).notes
    (All-from_recursion IsNote (notes_of r.fields) (notes-kept r.fields (recursion_from_All IsField r.fields r.fit)))

-- a page of an MT950 that is read of its own fields, with as many notes of the form of an 86
pub page-noted : (t : Tables) (page : Page950) (notes : List (List (List ℕ))) → mt950_of t (fields_950 page) ≡ Ok page → length notes ≡ length page.lines
    → AllByRecursion HasForm notes → mt940_of t (with_notes notes (fields_950 page)) ≡ Ok (record { page = page; notes = notes })
page-noted t page notes says as_many form =
    noted-read t (fields_950 page) page notes says (as_many ∙ sym (lines-read t (fields_950 page) page says)) form

-- what was read is read again
pub read-again : (p : Page940) → IsReadable mt940_of p → (t : Tables) (fs : List Field) → mt940_of t fs ≡ Ok p → mt940_of t (fields_940 p) ≡ Ok p
read-again p r t fs e =
    let is = readable-page p.page (page-kept p r) in
    let read = parts t fs p e in
    let again = page-reads-back t p.page (page-readable t (fields_beside fs) p.page is.opening.few read.page) in
    page-noted t p.page p.notes again read.as_many read.form

-- there is a first field
pub some-noted : (page : Page950) (notes : List (List (List ℕ))) → with_notes notes (fields_950 page) ≡ [] → ⊥
unfolding fields_950
some-noted page notes e = absurd (cc e)

-- the fields of a page with notes may stand in a text
pub page-fit : (page : Page950) (notes : List (List (List ℕ))) → IsReadable mt950_of page → All IsNote notes → All IsField (with_notes notes (fields_950 page))
page-fit page notes r are = noted-fit (fields_950 page) notes (fields-fit-950 page r) are
