-- Fields that may stand in a text are lines of a message to send, and so is what block 3 holds.
use Rattle.std.proofs.Common.{◌≡◌, ℕ, ◌+◌, ◌/◌, ◌%◌, ◌≤◌, ◌==◌, ◌&&◌, ◌||◌, not, Bool, true, false, List, [], ◌∷◌, ◌++◌, length, Option, Some, None, refl, sym, ap, ◌∙◌, arith, append_assoc}
use Rattle.std.specs.Prelude.{codes, IfSome, IsTrue}
use Rattle.std.specs.Char.{is_ascii_uppercase}
use Rattle.std.specs.List.{All, AllByRecursion, flat_map, list_all, zip}
use Rattle.std.proofs.lemmas.Bool.Decides.{nat_tests}
use Rattle.std.proofs.lemmas.List.Folds.{list_all-append}
use Rattle.corr_text.specs.Lines.{lines_of}
use Rattle.corr_text.specs.Sets.{is_x_byte, marks}
use Rattle.corr_text.proofs.laws.Written.{is_inner, line-again}
use Rattle.corr_ids.specs.Uetr.{IsUetr, fits_mark, is_uetr, uetr_form}
use Rattle.corr_ids.specs.declared.uetr.Uetr.{Uetr}
use Rattle.corr_ids.proofs.laws.Spelling.{some_if}
use Rattle.fin_blocks.specs.Forms.{is_plain}
use Rattle.fin_blocks.specs.Sending.{IsText, are_subblocks}
use Rattle.fin_blocks.specs.Text.{crlf, text_in}
use Rattle.fin_blocks.specs.Text.{ended as with_end}
use Rattle.fin_fields.specs.Faults.{has_other_byte}
use Rattle.fin_fields.specs.Writing.{ContinueAll, IsField, ended_lines, fields_text, heading_text, letter_text}
use Rattle.fin_fields.specs.declared.field.Field.{Field}
use Rattle.fin_contents.proofs.laws.Bytes.{and-both}
use Rattle.fin_contents.proofs.laws.Placed.{each-of}
use Rattle.day_model.specs.declared.pay.Order.{Order}
use Rattle.day_model.specs.declared.pay.Order.TheVariants.{Transfer, Cover, Pass, Debit, Credit}
use Rattle.advices.specs.Messages.{uetr_block, order_user}

-- ---- lines

-- a byte that may stand within a line of block 4
abbrev is_sendable : ℕ → Bool
is_sendable b = not (b == 123) && not (b == 125) && not (b == 10)

x-sendable : (b : ℕ) → is_x_byte b ≡ true → is_sendable b ≡ true
x-sendable b e = grind (arith, nat_tests)

-- lines whose bytes may stand there
abbrev IsLine : List ℕ → Type 0
IsLine line = list_all is_sendable line ≡ true

not-both : (a b : Bool) → (a || b) ≡ false → (a ≡ false) × (b ≡ false)
not-both true b e = absurd (cc e)
not-both false b e = (refl, e)

not-false : (b : Bool) → not b ≡ false → b ≡ true
not-false true e = refl
not-false false e = absurd (cc e)

x-line : (line : List ℕ) → has_other_byte line ≡ false → IsLine line
x-line [] e = refl
x-line (b ∷ line) e =
    let parts = not-both (not (is_x_byte b)) (has_other_byte line) e in
    rw (x-sendable b (not-false (is_x_byte b) parts.0)) (x-line line parts.1)

line-plain : (line : List ℕ) → IsLine line → (is_plain line ≡ true) × (list_all is_inner line ≡ true)
line-plain [] e = (refl, refl)
line-plain (b ∷ line) e =
    let both = and-both (is_sendable b) (list_all is_sendable line) e in
    let inner = and-both (not (b == 123) && not (b == 125)) (not (b == 10)) both.0 in
    let more = line-plain line both.1 in
    (rw (inner.0) more.0, rw (inner.1) more.1)

lines-plain : (lines : List (List ℕ)) → AllByRecursion IsLine lines → is_plain (flat_map with_end lines) ≡ true
lines-plain [] e = refl
lines-plain (line ∷ lines) e =
    list_all-append (λ b. not (b == 123) && not (b == 125)) (line ++ crlf) (flat_map with_end lines)
    ∙ rw (list_all-append (λ b. not (b == 123) && not (b == 125)) line crlf, (line-plain line e.0).0, lines-plain lines e.1) refl

lines-again : (lines : List (List ℕ)) → AllByRecursion IsLine lines → lines_of (flat_map with_end lines) ≡ lines
lines-again [] e = refl
lines-again (line ∷ lines) e =
    ap lines_of (append_assoc line crlf (flat_map with_end lines)) ∙ line-again line (flat_map with_end lines) (line-plain line e.0).1
    ∙ ap (λ (ls : List (List ℕ)). line ∷ ls) (lines-again lines e.1)

lines-text : (lines : List (List ℕ)) → AllByRecursion IsLine lines → IsText (flat_map with_end lines)
unfolding text_in
lines-text lines e = record { plain = lines-plain lines e; lines = ap (flat_map with_end) (lines-again lines e) }

-- ---- fields

-- the lines of a field, the first with its heading
abbrev headed : List ℕ → List (List ℕ) → List (List ℕ)
headed heading [] = heading ∷ []
headed heading (line ∷ lines) = (heading ++ line) ∷ lines

abbrev all_lines : List Field → List (List ℕ)
all_lines [] = []
all_lines (f ∷ fs) = headed (heading_text f) f.lines ++ all_lines fs

ended-lines : (lines : List (List ℕ)) → ended_lines lines ≡ flat_map with_end lines
ended-lines [] = refl
ended-lines (line ∷ lines) = ap (λ (t : List ℕ). line ++ 13 ∷ 10 ∷ t) (ended-lines lines) ∙ sym (append_assoc line crlf (flat_map with_end lines))

flat-append : (a b : List (List ℕ)) → flat_map with_end (a ++ b) ≡ flat_map with_end a ++ flat_map with_end b
flat-append [] b = refl
flat-append (line ∷ a) b =
    ap (λ (t : List ℕ). with_end line ++ t) (flat-append a b) ∙ sym (append_assoc (with_end line) (flat_map with_end a) (flat_map with_end b))

headed-text : (heading : List ℕ) (lines : List (List ℕ)) → ContinueAll lines → heading ++ ended_lines lines ≡ flat_map with_end (headed heading lines)
headed-text heading [] c = absurd c
headed-text heading (line ∷ lines) c =
    ap (λ (t : List ℕ). heading ++ (line ++ 13 ∷ 10 ∷ t)) (ended-lines lines)
    ∙ sym (append_assoc heading line (13 ∷ 10 ∷ flat_map with_end lines))
    ∙ sym (append_assoc (heading ++ line) crlf (flat_map with_end lines))

text-lines : (fs : List Field) → AllByRecursion IsField fs → fields_text fs ≡ flat_map with_end (all_lines fs)
text-lines [] all = refl
text-lines (f ∷ fs) all =
    ap (λ (t : List ℕ). t ++ fields_text fs) (headed-text (heading_text f) f.lines all.0.lines)
    ∙ ap (λ (t : List ℕ). flat_map with_end (headed (heading_text f) f.lines) ++ t) (text-lines fs all.1)
    ∙ sym (flat-append (headed (heading_text f) f.lines) (all_lines fs))

digit-sendable : (n : ℕ) → n ≤ 9 → is_sendable (48 + n) ≡ true
digit-sendable n e = grind (arith, nat_tests)

capital-sendable : (c : ℕ) → is_ascii_uppercase c ≡ true → is_sendable c ≡ true
capital-sendable c e = grind (arith, nat_tests)

letter-line : (letter : Option ℕ) → IfSome letter (λ c. is_ascii_uppercase c ≡ true) → IsLine (letter_text letter ++ 58 ∷ [])
letter-line None e = refl
letter-line (Some c) e = rw (capital-sendable c e) refl

heading-line : (f : Field) → IsField f → IsLine (heading_text f)
heading-line f is =
    let two : f.tag ≤ 99 = is.tag in
    rw (digit-sendable (f.tag / 10) (omega arith), digit-sendable (f.tag % 10) (omega arith)) (letter-line f.letter is.letter)

joined-line : (front back : List ℕ) → IsLine front → IsLine back → IsLine (front ++ back)
joined-line front back p q = list_all-append is_sendable front back ∙ rw (p, q) refl

each-line : (lines : List (List ℕ)) → AllByRecursion (λ line. has_other_byte line ≡ false) lines → AllByRecursion IsLine lines
each-line [] e = tt
each-line (line ∷ lines) e = (x-line line e.0, each-line lines e.1)

headed-lines : (heading : List ℕ) (lines : List (List ℕ)) → IsLine heading → AllByRecursion IsLine lines → AllByRecursion IsLine (headed heading lines)
headed-lines heading [] h e = (h, tt)
headed-lines heading (line ∷ lines) h e = (joined-line heading line h e.0, e.1)

both-lines : (a b : List (List ℕ)) → AllByRecursion IsLine a → AllByRecursion IsLine b → AllByRecursion IsLine (a ++ b)
both-lines [] b p q = q
both-lines (line ∷ a) b p q = (p.0, both-lines a b p.1 q)

lines-fine : (fs : List Field) → AllByRecursion IsField fs → AllByRecursion IsLine (all_lines fs)
lines-fine [] all = tt
lines-fine (f ∷ fs) all =
    both-lines (headed (heading_text f) f.lines) (all_lines fs)
    (headed-lines (heading_text f) f.lines (heading-line f all.0) (each-line f.lines (each-of (λ line. has_other_byte line ≡ false) f.lines all.0.bytes)))
    (lines-fine fs all.1)

-- the text of fields is one of a message to send
pub fields-are-text : (fs : List Field) → All IsField fs → IsText (fields_text fs)
fields-are-text fs all =
    let each = each-of IsField fs all in
    rw (text-lines fs each) (lines-text (all_lines fs) (lines-fine fs each))

-- ---- block 3

-- no brace
abbrev is_open : ℕ → Bool
is_open b = not (b == 123) && not (b == 125)

mark-open : (mark b : ℕ) → is_open mark ≡ true → fits_mark mark b ≡ true → is_open b ≡ true
mark-open mark b fine e = grind (arith, nat_tests)

marks-open : (bs marks : List ℕ) → length bs ≡ length marks → list_all is_open marks ≡ true → list_all (λ p. fits_mark p.1 p.0) (zip bs marks) ≡ true
    → list_all is_open bs ≡ true
marks-open [] marks same fine e = refl
marks-open (b ∷ bs) [] same fine e = absurd (cc same)
marks-open (b ∷ bs) (m ∷ marks) same safe e =
    let fine = and-both (is_open m) (list_all is_open marks) safe in
    let both = and-both (fits_mark m b) (list_all (λ p. fits_mark p.1 p.0) (zip bs marks)) e in
    let fewer : length bs ≡ length marks = omega (arith, same) in
    rw (mark-open m b fine.0 both.0) (marks-open bs marks fewer fine.1 both.1)

uetr-plain : (bs : List ℕ) → is_uetr bs ≡ true → is_plain bs ≡ true
unfolding is_uetr
uetr-plain bs e =
    let both = and-both (length bs == 36) (list_all (λ p. fits_mark p.1 p.0) (zip bs uetr_form)) e in
    let long : length bs ≡ 36 = grind (arith, nat_tests) in
    marks-open bs uetr_form long refl both.1

-- a reference that meets its grammar has the form
uetr-is : (u : Uetr) → IsUetr u → is_uetr u.0 ≡ true
uetr-is u is = (some_if (is_uetr u.0) _ u is).0

block-none : (front : List (ℕ × List ℕ)) → front ≡ [] → are_subblocks front ≡ true
unfolding are_subblocks
block-none front e = rw e refl

flag-alone : are_subblocks ((119, codes "COV") ∷ []) ≡ true
unfolding are_subblocks
flag-alone = refl

uetr-alone : (u : Uetr) → IsUetr u → are_subblocks ((121, u.0) ∷ []) ≡ true
unfolding are_subblocks
uetr-alone u is = rw (uetr-plain u.0 (uetr-is u is), uetr-is u is) refl

flag-and-uetr : (u : Uetr) → IsUetr u → are_subblocks ((119, codes "COV") ∷ (121, u.0) ∷ []) ≡ true
unfolding are_subblocks
flag-and-uetr u is = rw (uetr-plain u.0 (uetr-is u is), uetr-is u is) refl

of-transfer : (uetr : Option Uetr) → IfSome uetr IsUetr → are_subblocks (uetr_block uetr) ≡ true
of-transfer None is = block-none [] refl
of-transfer (Some u) is = uetr-alone u is

of-cover : (uetr : Option Uetr) → IfSome uetr IsUetr → are_subblocks ((119, codes "COV") ∷ uetr_block uetr) ≡ true
of-cover None is = flag-alone
of-cover (Some u) is = flag-and-uetr u is

-- what block 3 of an order's message holds may stand there
pub user-fine : (uetr : Option Uetr) (order : Order) → IfSome uetr IsUetr → IsTrue (are_subblocks (order_user uetr order))
user-fine uetr (Transfer to skip via) is = of-transfer uetr is
user-fine uetr (Cover to end skip) is = of-cover uetr is
user-fine uetr (Pass to skip) is = of-cover uetr is
user-fine uetr (Debit to leg) is = block-none [] refl
user-fine uetr (Credit to leg) is = block-none [] refl
