-- Fields that are written as lines are read back.
use Rattle.std.proofs.Common.{◌≡◌, ◌≢◌, ℕ, ◌+◌, ◌-◌, ◌*◌, ◌/◌, ◌%◌, ◌<◌, ◌==◌, ◌||◌, not, Bool, true, false, cond, List, [], ◌∷◌, ◌++◌, get_or, position, option_map, option_and_then, is_some, Option, Some, None, refl, sym, ap, ◌∙◌, append_assoc, arith}
use Rattle.std.specs.Prelude.{IfSome}
use Rattle.std.specs.Char.{is_ascii_digit, is_ascii_lowercase, is_ascii_uppercase}
use Rattle.std.specs.List.{All, list_all, list_any}
use Rattle.std.proofs.lemmas.Bool.{and_left, and_right, ne_eqb, not-false, or_parts, or_from}
use Rattle.std.proofs.lemmas.Bool.Decides.{nat_tests}
use Rattle.std.proofs.lemmas.List.{append-nil}
use Rattle.std.proofs.lemmas.List.Elements.{All-append, All-cons, All-head, All-tail}
use Rattle.std.proofs.lemmas.List.Folds.{list_any-append, list_any_none}
use Rattle.corr_text.specs.Sets.{is_x_byte, marks}
use Rattle.corr_text.specs.First.{first_of}
use Rattle.corr_text.proofs.laws.Written.{is_inner, line-again}
use Rattle.fin_fields.specs.declared.field.Field.{Field}
use Rattle.fin_fields.specs.declared.fault.FieldFault.{FieldFault}
use Rattle.fin_fields.specs.declared.fault.FieldFault.TheVariants.{P20}
use Rattle.corr_text.specs.Lines.{begins_with, lines_of}
use Rattle.fin_fields.specs.Fields.{Grouped, Heading, after_tag, fields_of, grouped, heading_of, with_line}
use Rattle.fin_fields.specs.Faults.{field_fault, faulty_line, has_other_byte, is_empty, is_misplaced, is_outside_x, outside_x, outside_x_at}
use Rattle.fin_fields.specs.Writing.{Continues, ContinueAll, IsField, ended_lines, fields_text, heading_text, letter_text}
use Rattle.fin_fields.proofs.laws.Positions.{position-none}

-- ---- lines that are ended are read back

no-feed : (b : ℕ) → is_x_byte b ≡ true → (b == 10) ≡ false
no-feed b x = ne_eqb b 10 (λ e. absurd (cc (rw e at x)))

inner : (line : List ℕ) → has_other_byte line ≡ false → list_all is_inner line ≡ true
inner [] x = refl
inner (b ∷ bs) x =
    let parts = or_parts (not (is_x_byte b)) (has_other_byte bs) x in
    rw (no-feed b (not-false (is_x_byte b) parts.0)) (inner bs parts.1)

line-read : (line rest : List ℕ) → has_other_byte line ≡ false → lines_of (line ++ 13 ∷ 10 ∷ rest) ≡ line ∷ lines_of rest
line-read line rest x = line-again line rest (inner line x)

abbrev InX : List ℕ → Type 0
InX line = has_other_byte line ≡ false

lines-read : (lines : List (List ℕ)) (rest : List ℕ) → All InX lines → lines_of (ended_lines lines ++ rest) ≡ lines ++ lines_of rest
lines-read [] rest x = refl
lines-read (line ∷ lines) rest x =
    rw append_assoc (line-read line (ended_lines lines ++ rest) (All-head InX line lines x)
    ∙ ap (λ (ls : List (List ℕ)). line ∷ ls) (lines-read lines rest (All-tail InX line lines x)))

-- ---- a heading is read back

is-digit : (d : ℕ) → d < 10 → is_ascii_digit (48 + d) ≡ true
is-digit d lt = grind (arith, nat_tests)

not-colon : (c : ℕ) → is_ascii_uppercase c ≡ true → (c == 58) ≡ false
not-colon c h = ne_eqb c 58 (λ e. absurd (cc (rw e at h)))

letter-read : (tag : ℕ) (letter : Option ℕ) (content : List ℕ) → IfSome letter (λ c. is_ascii_uppercase c ≡ true)
    → after_tag tag ((letter_text letter ++ 58 ∷ []) ++ content) ≡ Some (record { tag = tag; letter = letter; content = content })
letter-read tag None content up = refl
letter-read tag (Some c) content up = rw (not-colon c up, up) refl

heading-read : (f : Field) (content : List ℕ) → IsField f → heading_of (heading_text f ++ content) ≡ Some (record { tag = f.tag; letter = f.letter; content = content })
heading-read f content is =
    let tens : is_ascii_digit (48 + f.tag / 10) ≡ true = is-digit (f.tag / 10) (omega (arith, is.tag)) in
    let ones : is_ascii_digit (48 + f.tag % 10) ≡ true = is-digit (f.tag % 10) (omega (arith)) in
    let tag : 10 * ((48 + f.tag / 10) - 48) + ((48 + f.tag % 10) - 48) ≡ f.tag = omega arith in
    rw (tens, ones, tag) (letter-read f.tag f.letter content is.letter)

-- ---- a heading is of X

third : (u l d m : Bool) → d ≡ true → (u || l || d || m) ≡ true
third true l d m h = refl
third false true d m h = refl
third false false true m h = refl
third false false false m h = absurd (cc h)

digit-x : (b : ℕ) → is_ascii_digit b ≡ true → is_x_byte b ≡ true
digit-x b h = third (is_ascii_uppercase b) (is_ascii_lowercase b) (is_ascii_digit b) (list_any (λ m. b == m) marks) h

letter-x : (letter : Option ℕ) → IfSome letter (λ c. is_ascii_uppercase c ≡ true) → has_other_byte (letter_text letter ++ 58 ∷ []) ≡ false
letter-x None up = refl
letter-x (Some c) up = rw up refl

heading-x : (f : Field) → IsField f → has_other_byte (heading_text f) ≡ false
heading-x f is =
    let tens = digit-x (48 + f.tag / 10) (is-digit (f.tag / 10) (omega (arith, is.tag))) in
    let ones = digit-x (48 + f.tag % 10) (is-digit (f.tag % 10) (omega arith)) in
    or_from (not (is_x_byte (48 + f.tag / 10))) _ (ap not tens) (or_from (not (is_x_byte (48 + f.tag % 10))) _ (ap not ones) (letter-x f.letter is.letter))

-- ---- the lines of fields as they are written

abbrev written : Field → List (List ℕ) → List (List ℕ)
written f [] = []
written f (first ∷ more) = (heading_text f ++ first) ∷ more

abbrev all_written : List Field → List (List ℕ)
all_written [] = []
all_written (f ∷ fs) = written f f.lines ++ all_written fs

text-read : (f : Field) (lines : List (List ℕ)) (rest : List ℕ) → IsField f → ContinueAll lines → All InX lines
    → lines_of ((heading_text f ++ ended_lines lines) ++ rest) ≡ written f lines ++ lines_of rest
text-read f [] rest is go x = absurd go
text-read f (first ∷ more) rest is go x =
    let first_x : has_other_byte (heading_text f ++ first) ≡ false =
    list_any-append (λ b. not (is_x_byte b)) (heading_text f) first ∙ or_from _ _ (heading-x f is) (All-head InX first more x) in
    let same : heading_text f ++ ended_lines (first ∷ more) ≡ ended_lines (written f (first ∷ more)) = sym (append_assoc (heading_text f) first (13 ∷ 10 ∷ ended_lines more)) in
    ap (λ (t : List ℕ). lines_of (t ++ rest)) same
    ∙ lines-read (written f (first ∷ more)) rest (All-cons InX (heading_text f ++ first) more first_x (All-tail InX first more x))

all-read : (fs : List Field) → All IsField fs → lines_of (fields_text fs) ≡ all_written fs
all-read [] all = refl
all-read (f ∷ fs) all =
    let is = All-head IsField f fs all in
    text-read f f.lines (fields_text fs) is is.lines is.bytes
    ∙ ap (λ (ls : List (List ℕ)). written f f.lines ++ ls) (all-read fs (All-tail IsField f fs all))

-- ---- those lines are grouped as the fields

continue-heading : (line : List ℕ) → Continues line → heading_of line ≡ None
continue-heading [] h = refl
continue-heading (c ∷ []) h = refl
continue-heading (c ∷ tens ∷ []) h = refl
continue-heading (c ∷ tens ∷ ones ∷ rest) h = rw (h.1) refl

grouped-more : (more ls : List (List ℕ)) → All Continues more → grouped (more ++ ls) ≡ record { continued = more ++ (grouped ls).continued; fields = (grouped ls).fields }
grouped-more [] ls go = refl
grouped-more (line ∷ more) ls go =
    ap (λ (h : Option Heading). with_line line h (grouped (more ++ ls))) (continue-heading line (All-head Continues line more go))
    ∙ ap (with_line line None) (grouped-more more ls (All-tail Continues line more go))

field-grouped : (f : Field) (lines ls : List (List ℕ)) → f.lines ≡ lines → IsField f → ContinueAll lines → (grouped ls).continued ≡ []
    → grouped (written f lines ++ ls) ≡ record { continued = []; fields = f ∷ (grouped ls).fields }
field-grouped f [] ls same is go none = absurd go
field-grouped f (first ∷ more) ls same is go none =
    let whole : first ∷ (more ++ (grouped ls).continued) ≡ f.lines = ap (λ (c : List (List ℕ)). first ∷ (more ++ c)) none ∙ (ap (λ (c : List (List ℕ)). first ∷ c) (append-nil more) ∙ sym same) in
    ap (λ (h : Option Heading). with_line (heading_text f ++ first) h (grouped (more ++ ls))) (heading-read f first is)
    ∙ (ap (with_line (heading_text f ++ first) (Some (record { tag = f.tag; letter = f.letter; content = first }))) (grouped-more more ls go)
    ∙ ap (λ (c : List (List ℕ)). with_fields (record f { lines = c } ∷ (grouped ls).fields)) whole)
  where
    with_fields : List Field → Grouped
    with_fields fs = record { continued = []; fields = fs }

all-grouped : (fs : List Field) → All IsField fs → grouped (all_written fs) ≡ record { continued = []; fields = fs }
all-grouped [] all = refl
all-grouped (f ∷ fs) all =
    let is = All-head IsField f fs all in
    let later = all-grouped fs (All-tail IsField f fs all) in
    field-grouped f f.lines (all_written fs) refl is is.lines (ap (λ (g : Grouped). g.continued) later)
    ∙ ap (λ (g : Grouped). with_first f g) later
  where
    with_first : Field → Grouped → Grouped
    with_first f g = record { continued = []; fields = f ∷ g.fields }

-- ---- no line and no byte is at fault

abbrev IsPlaced : List ℕ → Type 0
IsPlaced line = is_misplaced line ≡ false

none-of-three : (a b c : Bool) → a ≡ false → b ≡ false → c ≡ false → (a || b || c) ≡ false
none-of-three a b c h k l = rw (h, k, l) refl

more-placed : (more : List (List ℕ)) → All Continues more → All IsPlaced more
more-placed more go = λ k d lt.
    let line = get_or more k d in
    and_right (not (is_some (heading_of line))) _ (none-of-three (is_empty line) (begins_with 58 line) (begins_with 45 line) (go k d lt).0 (go k d lt).1 (go k d lt).2)

field-placed : (f : Field) (lines : List (List ℕ)) → IsField f → ContinueAll lines → All IsPlaced (written f lines)
field-placed f [] is go = absurd go
field-placed f (first ∷ more) is go =
    All-cons IsPlaced (heading_text f ++ first) more
    (and_left _ _ (ap (λ (h : Option Heading). not (is_some h)) (heading-read f first is))) (more-placed more go)

all-placed : (fs : List Field) → All IsField fs → All IsPlaced (all_written fs)
all-placed [] all = λ k d lt. absurd (omega arith)
all-placed (f ∷ fs) all =
    let is = All-head IsField f fs all in
    All-append IsPlaced (written f f.lines) (all_written fs) (field-placed f f.lines is is.lines) (all-placed fs (All-tail IsField f fs all))

begins-well : (f : Field) (lines ls : List (List ℕ)) → IsField f → ContinueAll lines → All IsPlaced ls → faulty_line (written f lines ++ ls) ≡ None
begins-well f [] ls is go placed = absurd go
begins-well f (first ∷ more) ls is go placed =
    ap (λ (h : Option Heading). cond (is_some h) (option_map (λ i. i + 2) (position is_misplaced (more ++ ls))) (Some 1)) (heading-read f first is)
    ∙ ap (option_map (λ i. i + 2)) (position-none is_misplaced (more ++ ls) (All-append IsPlaced more ls (more-placed more go) placed))

no-line : (fs : List Field) → fs ≢ [] → All IsField fs → faulty_line (all_written fs) ≡ None
no-line [] some all = absurd (some refl)
no-line (f ∷ fs) some all =
    let is = All-head IsField f fs all in
    begins-well f f.lines (all_written fs) is is.lines (all-placed fs (All-tail IsField f fs all))

no-byte : (fs : List Field) → All IsField fs → outside_x fs ≡ None
no-byte fs all =
    ap (option_and_then (outside_x_at fs)) (position-none is_outside_x fs (λ k d lt. list_any_none has_other_byte (get_or fs k d).lines (all k d lt).bytes))

neither : (line : Option ℕ) (bytes : Option FieldFault) → line ≡ None → bytes ≡ None → first_of (option_map (λ l. P20 l) line ∷ bytes ∷ []) ≡ None
neither line bytes h k = rw (h, k) refl

-- ---- together

pub same-fields : (fs : List Field) → All IsField fs → fields_of (fields_text fs) ≡ fs
same-fields fs all = ap (λ (ls : List (List ℕ)). (grouped ls).fields) (all-read fs all) ∙ ap (λ (g : Grouped). g.fields) (all-grouped fs all)

pub no-fault : (fs : List Field) → fs ≢ [] → All IsField fs → field_fault (fields_text fs) ≡ None
no-fault fs some all =
    neither (faulty_line (lines_of (fields_text fs))) (outside_x (fields_of (fields_text fs)))
    (ap faulty_line (all-read fs all) ∙ no-line fs some all) (ap outside_x (same-fields fs all) ∙ no-byte fs all)
