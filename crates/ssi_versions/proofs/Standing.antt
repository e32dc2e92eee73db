-- The instructions of a file that has no fault.
use Rattle.std.proofs.Common.{◌≡◌, ℕ, ◌≤◌, ◌<◌, Bool, true, false, cond, ◌&&◌, ◌==◌, List, [], ◌∷◌, length, map, get_or, take, Option, Some, None, option_map, unwrap_or, is_some, refl, sym, ap, ◌∙◌, subst, arith, inl, inr, ℤ, ◌<ℤ◌, ◌+◌}
use Rattle.std.specs.Prelude.{slice_get, IfOk, Result, Ok, Err, int_le, int_lt, position}
use Rattle.std.specs.Str.{bytes_eq}
use Rattle.std.proofs.lemmas.Bool.Decides.{nat_tests}
use Rattle.std.proofs.lemmas.Bool.{cases_lt}
use Rattle.std.proofs.lemmas.Int.{ints}
use Rattle.std.proofs.lemmas.List.{length-map, get_or-map, get_or-take, length-take-le}
use Rattle.std.proofs.lemmas.Option.{slice_get-map, slice_get-get_or, slice_get_cases}
use Rattle.std.proofs.lemmas.Slice.Eq.{bytes_eq-Decides}
use Rattle.corr_text.specs.First.{first_of, unless}
use Rattle.corr_ids.specs.Bic.{bic_of, branch_of, is_bic, IsBic}
use Rattle.corr_ids.specs.Day.{day_of}
use Rattle.corr_ids.specs.declared.bic.Bic.{Bic}
use Rattle.corr_ids.specs.declared.day.Day.{Day}
use Rattle.corr_ids.proofs.laws.Spelling.{bic-again}
use Rattle.corr_money.specs.declared.amount.Ccy.{Ccy}
use Rattle.ref_tables.specs.declared.fault.Why.{Why}
use Rattle.ref_tables.specs.declared.fault.Why.TheVariants as why
use Rattle.ref_tables.specs.Columns.{is_account_id, is_ccy}
use Rattle.ref_tables.specs.Rows.{Cells, cell, rows_within}
use Rattle.ref_tables.specs.Refusals.{against, value, first_bad_row}
use Rattle.ref_tables.specs.Seen.{Tables, decimals_in}
use Rattle.ref_tables.proofs.laws.Fine.{both-none, fine-at, head-none, map-none, next-holds, none-meets}
use Rattle.ref_tables.proofs.laws.Records.{rows_within_some}
use Rattle.ssi_versions.specs.declared.method.Method.{Method}
use Rattle.ssi_versions.specs.declared.method.Method.TheVariants.{Book, Serial, Cover}
use Rattle.ssi_versions.specs.declared.row.SsiRow.{SsiRow}
use Rattle.ssi_versions.specs.Index.{HasSpan}
use Rattle.ssi_versions.specs.Instruction.{is_asked}
use Rattle.ssi_versions.specs.InstructionList.{AreInstructions, IsInForm, IsInstruction}
use Rattle.ssi_versions.specs.Rows.{form_fault, instruction_fault, instruction_of, is_bank_text, knows_bank, knows_via, method_in, method_of, overlap, overlaps, standing_fault, via_in, via_of}

six-hold : (a b c d e f : Bool) (g h i j k l : Why) (more : List (Option Why)) → first_of (unless a g ∷ unless b h ∷ unless c i ∷ unless d j ∷ unless e k ∷ unless f l ∷ more) ≡ None
    → (b ≡ true) × (c ≡ true) × (d ≡ true) × (e ≡ true) × (f ≡ true)
six-hold a b c d e f g h i j k l more none =
    let first = next-holds a g (unless b h ∷ unless c i ∷ unless d j ∷ unless e k ∷ unless f l ∷ more) none in
    let second = next-holds b h (unless c i ∷ unless d j ∷ unless e k ∷ unless f l ∷ more) first.1 in
    let third = next-holds c i (unless d j ∷ unless e k ∷ unless f l ∷ more) second.1 in
    let fourth = next-holds d j (unless e k ∷ unless f l ∷ more) third.1 in
    let fifth = next-holds e k (unless f l ∷ more) fourth.1 in
    let last = next-holds f l more fifth.1 in
    (second.0, third.0, fourth.0, fifth.0, last.0)

-- a BIC that a text spells meets its grammar
spelled : (bs : List ℕ) (b : Bic) → bic_of bs ≡ Some b → IsBic b
spelled bs b e = go (is_bic bs) refl e
  where
    go : (r : Bool) → is_bic bs ≡ r → cond r (Some (record { head = take 8 bs; branch = branch_of bs })) None ≡ Some b → IsBic b
    go true is same = subst IsBic (cc same) (bic-again bs is)
    go false is same = absurd (cc same)

between-form : (bs : List ℕ) (b : Bic) (o : Option Bic) → bic_of bs ≡ o → unwrap_or (option_map (λ x. Some x) o) None ≡ Some b → IsBic b
between-form bs b None is e = absurd (cc e)
between-form bs b (Some x) is e = spelled bs b (is ∙ e)

-- no bank between
abbrev no-bank : Option Bic
no-bank = None

nothing : (r : Bool) (b : Bic) → unwrap_or (cond r (Some no-bank) None) None ≡ Some b → ⊥
nothing true b e = cc e
nothing false b e = cc e

-- the bank between is a BIC
via-form : (m : Method) (bs : List ℕ) (b : Bic) → unwrap_or (via_of m bs) None ≡ Some b → IsBic b
via-form Book bs b e = absurd (nothing (length bs == 0) b e)
via-form Serial bs b e = between-form bs b (bic_of bs) refl e
via-form Cover bs b e = between-form bs b (bic_of bs) refl e

one-between : (o : Option Bic) → is_some (option_map (λ x. Some x) o) ≡ true → unwrap_or (option_map (λ x. Some x) o) None ≡ None → ⊥
one-between None some none = cc some
one-between (Some x) some none = cc none

no-between : (r : Bool) → unwrap_or (cond r (Some no-bank) None) None ≡ None
no-between true = refl
no-between false = refl

-- there is none exactly with BOOK
none-booked : (m : Method) (bs : List ℕ) → is_some (via_of m bs) ≡ true → unwrap_or (via_of m bs) None ≡ None → m ≡ Book
none-booked Book bs some none = refl
none-booked Serial bs some none = absurd (one-between (bic_of bs) some none)
none-booked Cover bs some none = absurd (one-between (bic_of bs) some none)

booked-none : (m : Method) (bs : List ℕ) → m ≡ Book → unwrap_or (via_of m bs) None ≡ None
booked-none Book bs e = no-between (length bs == 0)
booked-none Serial bs e = absurd (cc e)
booked-none Cover bs e = absurd (cc e)

-- the columns of a row have their forms
in-form : (row : Cells) → form_fault row ≡ None → IsInForm (instruction_of row)
in-form row none =
    let h = six-hold (length row == 7) (is_ccy (cell 0 row)) (is_bank_text (cell 1 row)) (is_some (method_of (cell 2 row))) (is_some (via_in row)) (is_account_id (cell 4 row))
    why.Columns (why.Value 1) (why.Value 2) (why.Value 3) (why.Value 4) (why.Value 5)
    (value 6 (is_some (day_of (cell 5 row))) ∷ value 7 (is_some (day_of (cell 6 row))) ∷ []) none in
    record {
      ccy = h.0;
      bank = h.1;
      via = λ b e. via-form (method_in row) (cell 3 row) b e;
      booked = (none-booked (method_in row) (cell 3 row) h.3, booked-none (method_in row) (cell 3 row));
      account = h.4;
    }

-- the instruction of a row that fails no test is in form
pub read-in-form : (t : Tables) (earlier : List SsiRow) (row : Cells) → instruction_fault t earlier row ≡ None → IsInForm (instruction_of row)
read-in-form t earlier row none = in-form row ((both-none _ _ none).0)

-- an instruction stands beside those before it
record Stands (t : Tables) (earlier : List SsiRow) (a : SsiRow) : Type 0 where
  pub banks : (knows_bank t a.bank && knows_via t a.via) ≡ true
  pub ccy : is_some (decimals_in t a.ccy.0) ≡ true
  pub span : int_lt a.from.0 a.until.0 ≡ true
  pub alone : overlap a earlier ≡ None

stands : (t : Tables) (earlier : List SsiRow) (a : SsiRow) → standing_fault t earlier a ≡ None → Stands t earlier a
stands t earlier a e =
    let first = next-holds _ _ _ e in
    let second = next-holds _ _ _ first.1 in
    let third = next-holds _ _ _ second.1 in
    let last = head-none _ _ third.1 in
    record { banks = first.0; ccy = second.0; span = third.0; alone = last.0 }

before : (x y : ℤ) → int_lt x y ≡ true → x <ℤ y
before x y e = grind (arith, ints, nat_tests)

-- such an instruction ends after its first day, and overlaps none before it
pub read-stands : (t : Tables) (earlier : List SsiRow) (row : Cells) → instruction_fault t earlier row ≡ None → HasSpan (instruction_of row) × (position (overlaps (instruction_of row)) earlier ≡ None)
read-stands t earlier row none =
    let s = stands t earlier (instruction_of row) ((both-none _ _ none).1) in
    (before _ _ s.span, map-none _ (position (overlaps (instruction_of row)) earlier) s.alone)

and-parts : (a b : Bool) → (a && b) ≡ true → (a ≡ true) × (b ≡ true)
and-parts a b e = grind (arith, nat_tests)

is-instruction : (t : Tables) (earlier : List SsiRow) (row : Cells) → IsInForm (instruction_of row) → Stands t earlier (instruction_of row) → IsInstruction t (instruction_of row)
is-instruction t earlier row form s =
    let known = and-parts _ _ s.banks in
    record { form = form; bank = known.0; via = known.1; ccy = s.ccy; span = before _ _ s.span }

-- an instruction that overlaps none before it overlaps each of them not
pub none-overlaps : (a : SsiRow) (earlier : List SsiRow) (k : ℕ) (d : SsiRow) → position (overlaps a) earlier ≡ None → k < length earlier → overlaps a (get_or earlier k d) ≡ false
none-overlaps a earlier k d e lt = none-meets (overlaps a) earlier k d (ap (option_map (λ i. why.Double (i + 1))) e) lt

-- two that are in force on one day, for one currency and one bank text, overlap
same-bytes : (xs ys : List ℕ) → xs ≡ ys → bytes_eq xs ys ≡ true
same-bytes xs ys e = (bytes_eq-Decides xs ys).1 e

both-are : (zs xs ys : List ℕ) → bytes_eq zs xs ≡ true → bytes_eq zs ys ≡ true → bytes_eq xs ys ≡ true
both-are zs xs ys e f = same-bytes xs ys (sym ((bytes_eq-Decides zs xs).0 e) ∙ (bytes_eq-Decides zs ys).0 f)

within : (x y z : ℤ) → int_le x y ≡ true → int_lt y z ≡ true → int_lt x z ≡ true
within x y z e f = grind (arith, ints, nat_tests)

four-hold : (a b c d : Bool) → ((a && b && c) && d) ≡ true → (a ≡ true) × (b ≡ true) × (c ≡ true) × (d ≡ true)
four-hold a b c d e = grind (arith, nat_tests)

asked-parts : (ccy : Ccy) (bank : List ℕ) (day : Day) (r : SsiRow) → is_asked ccy bank day r ≡ true
    → (bytes_eq ccy.0 r.ccy.0 ≡ true) × (int_le r.from.0 day.0 ≡ true) × (int_lt day.0 r.until.0 ≡ true) × (bytes_eq bank r.bank ≡ true)
asked-parts ccy bank day r e = four-hold (bytes_eq ccy.0 r.ccy.0) (int_le r.from.0 day.0) (int_lt day.0 r.until.0) (bytes_eq bank r.bank) e

asked-overlap : (ccy : Ccy) (bank : List ℕ) (day : Day) (a b : SsiRow) → is_asked ccy bank day a ≡ true → is_asked ccy bank day b ≡ true → overlaps a b ≡ true
asked-overlap ccy bank day a b e f =
    let x = asked-parts ccy bank day a e in
    let y = asked-parts ccy bank day b f in
    rw (both-are ccy.0 a.ccy.0 b.ccy.0 x.0 y.0, both-are bank a.bank b.bank x.3 y.3, within a.from.0 day.0 b.until.0 x.1 y.2, within b.from.0 day.0 a.until.0 y.1 x.2) refl

module _ (t : Tables) (rows : List Cells) (fine : first_bad_row (against instruction_of (instruction_fault t)) [] rows ≡ None) where
  -- each row fails no test
  row-fine : (i : ℕ) (d : Cells) → i < length rows → instruction_fault t (map instruction_of (take i rows)) (get_or rows i d) ≡ None
  row-fine i d lt = fine-at (against instruction_of (instruction_fault t)) [] rows i d fine lt

  stands-at : (i : ℕ) (d : Cells) → i < length rows → IsInstruction t (instruction_of (get_or rows i d))
  stands-at i d lt =
      let parts = both-none _ _ (row-fine i d lt) in
      is-instruction t (map instruction_of (take i rows)) (get_or rows i d) (in-form (get_or rows i d) parts.0) (stands t (map instruction_of (take i rows)) (instruction_of (get_or rows i d)) parts.1)

  -- no two rows give instructions that overlap
  apart : (i j : ℕ) (d : Cells) → i < j → j < length rows → overlaps (instruction_of (get_or rows j d)) (instruction_of (get_or rows i d)) ≡ false
  apart i j d lt end =
      let short : i < length (take j rows) = omega (arith, length-take-le j rows (omega arith)) in
      let inside : i < length (map instruction_of (take j rows)) = simp length-map short in
      let s = stands t (map instruction_of (take j rows)) (instruction_of (get_or rows j d)) ((both-none _ _ (row-fine j d end)).1) in
      let alone = map-none _ (position (overlaps (instruction_of (get_or rows j d))) (map instruction_of (take j rows))) s.alone in
      let met = none-overlaps (instruction_of (get_or rows j d)) (map instruction_of (take j rows)) i (instruction_of d) alone inside in
      rw (get_or-map instruction_of (take j rows) i d (instruction_of d) short, get_or-take j rows i d lt) at met

  -- the row of an instruction
  row-of : (i : ℕ) (a : SsiRow) → slice_get (map instruction_of rows) i ≡ Some a → (i < length rows) × (a ≡ instruction_of (get_or rows i []))
  row-of i a e = elim ((slice_get_cases rows i).1) [
    | inl (x, lt, is, at) ↦ (lt, cc (sym e ∙ slice_get-map instruction_of rows i ∙ ap (option_map instruction_of) (slice_get-get_or rows i [] lt)))
    | inr (past, none) ↦ absurd (cc (sym e ∙ slice_get-map instruction_of rows i ∙ ap (option_map instruction_of) none))
  ]

  never : (b : Bool) → b ≡ true → b ≡ false → ⊥
  never b holds fails = cc (sym holds ∙ fails)

  -- instructions that overlap are one
  one : (i j : ℕ) (a b : SsiRow) → slice_get (map instruction_of rows) i ≡ Some a → slice_get (map instruction_of rows) j ≡ Some b → overlaps a b ≡ true → overlaps b a ≡ true → i ≡ j
  one i j a b at-i at-j first second =
      let x = row-of i a at-i in
      let y = row-of j b at-j in
      elim (cases_lt i j) [
        | inl less ↦ absurd (never _ (rw (x.1, y.1) at second) (apart i j [] less y.0))
        | inr more ↦ elim (cases_lt j i) [
          | inl less ↦ absurd (never _ (rw (x.1, y.1) at first) (apart j i [] less x.0))
          | inr same ↦ omega arith
        ]
      ]

  -- what holds of the instructions of rows without a fault
  are-instructions : length rows ≤ 10000 → AreInstructions t (map instruction_of rows)
  are-instructions few = record {
    few = simp length-map few;
    each = λ i r at. let x = row-of i r at in rw x.1 (stands-at i [] x.0);
    single = λ ccy bank day i j a b at-i at-j asked-a asked-b. one i j a b at-i at-j (asked-overlap ccy bank day a b asked-a asked-b) (asked-overlap ccy bank day b a asked-b asked-a);
  }

-- what was read of a file
pub read-are-instructions : {E : Type 0} (t : Tables) (file : List ℕ) (rows : List Cells) (r : Result (List SsiRow) E) → Some rows ≡ rows_within 10000 file
    → IfOk r (λ s. (first_bad_row (against instruction_of (instruction_fault t)) [] rows ≡ None) × (s ≡ map instruction_of rows)) → IfOk r (λ s. AreInstructions t s)
read-are-instructions t file rows (Ok s) e (fine, items) =
    let few = rows_within_some 10000 file rows e in
    rw items (are-instructions t rows fine few.1)
read-are-instructions t file rows (Err f) e h = tt
