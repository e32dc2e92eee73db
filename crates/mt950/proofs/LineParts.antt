-- The parts of a statement line: what is written is read, and what is read can be written.
use Rattle.std.proofs.Common.{◌≡◌, ℕ, suc, ◌+◌, ◌<◌, ◌≤◌, ◌==◌, ◌&&◌, ◌||◌, Bool, true, false, cond, List, [], ◌∷◌, ◌++◌, length, take, drop, position, Option, Some, None, refl, ap, subst, arith, nat_le, nat_lt}
use Rattle.std.specs.Prelude.{IfSome, IsTrue}
use Rattle.std.specs.Char.{is_ascii_digit, is_ascii_uppercase}
use Rattle.std.specs.List.{list_all}
use Rattle.std.proofs.lemmas.Bool.{le-leb, lt-ltb}
use Rattle.std.proofs.lemmas.Bool.Decides.{nat_tests}
use Rattle.std.proofs.lemmas.List.{append-nil, drop_at, length-append, length-take-le, take_at}
use Rattle.corr_text.specs.Sets.{is_in}
use Rattle.corr_text.specs.declared.set.Set.TheVariants.{X, N, C as capital_or_digit}
use Rattle.fin_fields.specs.Patterns.{is_run}
use Rattle.fin_fields.specs.Writing.{letter_text}
use Rattle.mt950.specs.Parts.{LineParts, amount_part, are_references, date_in, double_slash_in, entry_date_part, funds_in, is_entry_type, kind_in, mark_in, line_parts, references_in, split_references}
use Rattle.mt950.specs.Writing.{IsEnded, mark_text, part_text, servicer_text}
use Rattle.mt950.specs.declared.entry.Mark.{Mark}
use Rattle.mt950.specs.declared.entry.Mark.TheVariants.{C, D, RC, RD}
use Rattle.mt950.proofs.Amount.{ends_amount}
use Rattle.mt950.proofs.First.{Fail, position-after}
use Rattle.mt950.proofs.Slashes.{ended-there, ends-it}
use Rattle.mt950.proofs.Steps.{and-false, and-then, both, some-if}

-- ---- each part at the front of what is left

pub date-again : (date rest : List ℕ) → length date ≡ 6 → list_all (is_in N) date ≡ true → date_in (date ++ rest) ≡ Some (date, rest)
date-again date rest six digits =
    let front : take 6 (date ++ rest) ≡ date = take_at date rest 6 six in
    let back : drop 6 (date ++ rest) ≡ rest = drop_at date rest 6 six in
    let long : nat_le 6 (length (date ++ rest)) ≡ true = le-leb 6 (length (date ++ rest)) (omega (arith, length-append date rest, six)) in
    rw (long, front, back, digits) refl

entry-some : (entry rest : List ℕ) → length entry ≡ 4 → list_all (is_in N) entry ≡ true → entry_date_part (entry ++ rest) ≡ (Some entry, rest)
entry-some entry rest four digits =
    let front : take 4 (entry ++ rest) ≡ entry = take_at entry rest 4 four in
    let back : drop 4 (entry ++ rest) ≡ rest = drop_at entry rest 4 four in
    let long : nat_le 4 (length (entry ++ rest)) ≡ true = le-leb 4 (length (entry ++ rest)) (omega (arith, length-append entry rest, four)) in
    rw (long, front, back, digits) refl

-- a mark is no digit
letter-first : (letter : ℕ) (rest : List ℕ) → is_ascii_digit letter ≡ false → entry_date_part (letter ∷ rest) ≡ (None, letter ∷ rest)
letter-first letter rest other = rw (other, and-false (nat_le 4 (length (letter ∷ rest)))) refl

entry-none : (mark : Mark) (rest : List ℕ) → entry_date_part (mark_text mark ++ rest) ≡ (None, mark_text mark ++ rest)
entry-none C rest = letter-first 67 rest refl
entry-none D rest = letter-first 68 rest refl
entry-none RC rest = letter-first 82 (67 ∷ rest) refl
entry-none RD rest = letter-first 82 (68 ∷ rest) refl

pub entry-again : (entry : Option (List ℕ)) (mark : Mark) (rest : List ℕ)
    → IfSome entry (λ entry. (length entry ≡ 4) × IsTrue (list_all (is_in N) entry))
    → entry_date_part (part_text entry ++ (mark_text mark ++ rest)) ≡ (entry, mark_text mark ++ rest)
entry-again None mark rest is = entry-none mark rest
entry-again (Some entry) mark rest is = entry-some entry (mark_text mark ++ rest) is.0 is.1

pub mark-again : (mark : Mark) (rest : List ℕ) → mark_in (mark_text mark ++ rest) ≡ Some (mark, rest)
mark-again C rest = refl
mark-again D rest = refl
mark-again RC rest = refl
mark-again RD rest = refl

digit-first : (b : ℕ) (rest : List ℕ) → is_ascii_digit b ≡ true → funds_in (b ∷ rest) ≡ (None, b ∷ rest)
digit-first b rest digit =
    let other : is_ascii_uppercase b ≡ false = grind (arith, nat_tests) in
    rw other refl

pub funds-again : (funds : Option ℕ) (b : ℕ) (rest : List ℕ) → IfSome funds (λ letter. is_ascii_uppercase letter ≡ true) → is_ascii_digit b ≡ true
    → funds_in (letter_text funds ++ b ∷ rest) ≡ (funds, b ∷ rest)
funds-again None b rest up digit = digit-first b rest digit
funds-again (Some letter) b rest up digit = rw up refl

pub amount-again : (text rest : List ℕ) (b : ℕ) → Fail ends_amount text → 0 < length text → ends_amount b ≡ true
    → amount_part (text ++ b ∷ rest) ≡ Some (text, b ∷ rest)
amount-again text rest b goes some ends =
    let at : position ends_amount (text ++ b ∷ rest) ≡ Some (length text) = position-after ends_amount text b rest goes ends in
    let front : take (length text) (text ++ b ∷ rest) ≡ text = take_at text (b ∷ rest) (length text) refl in
    let back : drop (length text) (text ++ b ∷ rest) ≡ b ∷ rest = drop_at text (b ∷ rest) (length text) refl in
    let long : nat_lt 0 (length text) ≡ true = lt-ltb 0 (length text) some in
    rw (at, long, front, back) refl

kind-byte : (b : ℕ) (digits capitals : Bool) → (((b == 83) && digits) || (((b == 78) || (b == 70)) && capitals)) ≡ true → ends_amount b ≡ true
kind-byte b digits capitals e = grind (arith, nat_tests)

-- a type begins with a letter
pub kind-ends : (kind : List ℕ) → length kind ≡ 4 → is_entry_type kind ≡ true → (b : ℕ) × (rest : List ℕ) × (kind ≡ b ∷ rest) × (ends_amount b ≡ true)
kind-ends [] four is = absurd (cc four)
kind-ends (b ∷ rest) four is = (b, rest, refl, kind-byte b (list_all (is_in N) rest) (list_all (is_in capital_or_digit) rest) is)

pub kind-again : (kind rest : List ℕ) → length kind ≡ 4 → is_entry_type kind ≡ true → kind_in (kind ++ rest) ≡ Some (kind, rest)
kind-again kind rest four is =
    let front : take 4 (kind ++ rest) ≡ kind = take_at kind rest 4 four in
    let back : drop 4 (kind ++ rest) ≡ rest = drop_at kind rest 4 four in
    let long : nat_le 4 (length (kind ++ rest)) ≡ true = le-leb 4 (length (kind ++ rest)) (omega (arith, length-append kind rest, four)) in
    rw (long, front, back, is) refl

-- the references, as one value
abbrev Split : Type 0
Split = List ℕ × Option (List ℕ)

references-by : (rest : List ℕ) (split : Split) → split_references rest (double_slash_in rest) ≡ split → are_references split ≡ true
    → references_in rest ≡ Some split
references-by rest split e is = rw (e, is) refl

after-two : (reference text : List ℕ) → drop (length reference + 2) (reference ++ 47 ∷ 47 ∷ text) ≡ text
after-two [] text = refl
after-two (b ∷ bs) text =
    let more : length (b ∷ bs) + 2 ≡ suc (length bs + 2) = omega arith in
    rw more (after-two bs text)

pub references-again : (reference : List ℕ) (servicer : Option (List ℕ)) → IsTrue (is_run (is_in X) 16 reference) → IsEnded reference servicer
    → IfSome servicer (λ text. IsTrue (is_run (is_in X) 16 text)) → references_in (reference ++ servicer_text servicer) ≡ Some (reference, servicer)
references-again reference None run ended is =
    let all : reference ++ [] ≡ reference = append-nil reference in
    let form : are_references (reference, None) ≡ true = rw run refl in
    rw all (references-by reference (reference, None) (rw ended refl) form)
references-again reference (Some text) run ended is =
    let line : List ℕ = reference ++ 47 ∷ 47 ∷ text in
    let at : double_slash_in line ≡ Some (length reference) = ends-it reference text ended in
    let front : take (length reference) line ≡ reference = take_at reference (47 ∷ 47 ∷ text) (length reference) refl in
    let form : are_references (reference, Some text) ≡ true = rw (run, is) refl in
    references-by line (reference, Some text) (rw (at, front, after-two reference text) refl) form

-- ---- the parts of a line, one after the other

pub record Cut (line : List ℕ) (p : LineParts) : Type 0 where
  pub after_date : List ℕ
  pub after_entry : List ℕ
  pub after_mark : List ℕ
  pub after_funds : List ℕ
  pub after_amount : List ℕ
  pub after_kind : List ℕ
  pub date : date_in line ≡ Some (p.date, after_date)
  pub entry : entry_date_part after_date ≡ (p.entry, after_entry)
  pub mark : mark_in after_entry ≡ Some (p.mark, after_mark)
  pub funds : funds_in after_mark ≡ (p.funds, after_funds)
  pub amount : amount_part after_funds ≡ Some (p.amount, after_amount)
  pub kind : kind_in after_amount ≡ Some (p.kind, after_kind)
  pub references : references_in after_kind ≡ Some (p.reference, p.servicer)

pub cut-parts : (line : List ℕ) (p : LineParts) → Cut line p → line_parts line ≡ Some p
unfolding line_parts
cut-parts line p c = rw (c.date, c.entry, c.mark, c.funds, c.amount, c.kind, c.references) refl

pub parts-cut : (line : List ℕ) (p : LineParts) → line_parts line ≡ Some p → Cut line p
unfolding line_parts
parts-cut line p e =
    let date = and-then (date_in line) _ p e in
    let mark = and-then (mark_in (entry_date_part date.0.1).1) _ p date.2 in
    let amount = and-then (amount_part (funds_in mark.0.1).1) _ p mark.2 in
    let kind = and-then (kind_in amount.0.1) _ p amount.2 in
    let references = and-then (references_in kind.0.1) _ p kind.2 in
    let same : record {
      date = date.0.0;
      entry = (entry_date_part date.0.1).0;
      mark = mark.0.0;
      funds = (funds_in mark.0.1).0;
      amount = amount.0.0;
      kind = kind.0.0;
      reference = references.0.0;
      servicer = references.0.1;
    } ≡ p =
    cc references.2 in
    rw (← same) (record {
      after_date = date.0.1;
      after_entry = (entry_date_part date.0.1).1;
      after_mark = mark.0.1;
      after_funds = (funds_in mark.0.1).1;
      after_amount = amount.0.1;
      after_kind = kind.0.1;
      date = date.1;
      entry = refl;
      mark = mark.1;
      funds = refl;
      amount = amount.1;
      kind = kind.1;
      references = references.1;
    })

-- ---- what was read

entry-by : (b : Bool) (rest : List ℕ) → (nat_le 4 (length rest) && list_all (is_in N) (take 4 rest)) ≡ b
    → IfSome (cond {A = Option (List ℕ) × List ℕ} b (Some (take 4 rest), drop 4 rest) (None, rest)).0
    (λ entry. (length entry ≡ 4) × IsTrue (list_all (is_in N) entry))
entry-by false rest e = tt
entry-by true rest e =
    let p = both (nat_le 4 (length rest)) (list_all (is_in N) (take 4 rest)) e in
    let long : 4 ≤ length rest = grind (arith, nat_tests) in
    (length-take-le 4 rest long, p.1)

pub entry-read : (rest : List ℕ) → IfSome (entry_date_part rest).0 (λ entry. (length entry ≡ 4) × IsTrue (list_all (is_in N) entry))
entry-read rest = entry-by (nat_le 4 (length rest) && list_all (is_in N) (take 4 rest)) rest refl

funds-by : (b : Bool) (letter : ℕ) (rest : List ℕ) → is_ascii_uppercase letter ≡ b
    → IfSome (cond {A = Option ℕ × List ℕ} b (Some letter, rest) (None, letter ∷ rest)).0 (λ letter. is_ascii_uppercase letter ≡ true)
funds-by true letter rest e = e
funds-by false letter rest e = tt

pub funds-read : (rest : List ℕ) → IfSome (funds_in rest).0 (λ letter. is_ascii_uppercase letter ≡ true)
funds-read [] = tt
funds-read (letter ∷ rest) = funds-by (is_ascii_uppercase letter) letter rest refl

pub kind-read : (rest kind more : List ℕ) → kind_in rest ≡ Some (kind, more) → (length kind ≡ 4) × (is_entry_type kind ≡ true)
kind-read rest kind more e =
    let s = some-if (nat_le 4 (length rest) && is_entry_type (take 4 rest)) (Some (take 4 rest, drop 4 rest)) (kind, more) e in
    let p = both (nat_le 4 (length rest)) (is_entry_type (take 4 rest)) s.0 in
    let long : 4 ≤ length rest = grind (arith, nat_tests) in
    let pair : (take 4 rest, drop 4 rest) ≡ (kind, more) = cc s.1 in
    let same : take 4 rest ≡ kind = ap (λ (x : List ℕ × List ℕ). x.0) pair in
    rw (← same) (length-take-le 4 rest long, p.1)

-- the references of a line can be written
pub record AreReferences (reference : List ℕ) (servicer : Option (List ℕ)) : Type 0 where
  pub run : IsTrue (is_run (is_in X) 16 reference)
  pub ended : IsEnded reference servicer
  pub after : IfSome servicer (λ text. IsTrue (is_run (is_in X) 16 text))

split-read : (rest : List ℕ) (o : Option ℕ) → double_slash_in rest ≡ o → are_references (split_references rest o) ≡ true
    → AreReferences (split_references rest o).0 (split_references rest o).1
split-read rest None at e = record { run = (both (is_run (is_in X) 16 rest) true e).0; ended = at; after = tt }
split-read rest (Some n) at e =
    let p = both (is_run (is_in X) 16 (take n rest)) (is_run (is_in X) 16 (drop (n + 2) rest)) e in
    record { run = p.0; ended = ended-there rest n at; after = p.1 }

pub references-read : (rest reference : List ℕ) (servicer : Option (List ℕ)) → references_in rest ≡ Some (reference, servicer)
    → AreReferences reference servicer
references-read rest reference servicer e =
    let split : Split = split_references rest (double_slash_in rest) in
    let s = some-if (are_references split) (Some split) (reference, servicer) e in
    let pair : split ≡ (reference, servicer) = cc s.1 in
    let is : AreReferences split.0 split.1 = split-read rest (double_slash_in rest) refl s.0 in
    subst (λ (x : Split). AreReferences x.0 x.1) pair is
