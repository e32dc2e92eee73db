-- Statement lines: what is written is read, and what is read can be written.
use Rattle.std.proofs.Common.{◌≡◌, ℕ, ◌<◌, ◌≤◌, true, List, [], ◌∷◌, ◌++◌, length, Option, Some, None, Ok, refl, ap, subst, arith, append_assoc}
use Rattle.std.specs.Prelude.{IfSome, IsTrue}
use Rattle.std.specs.Char.{is_ascii_uppercase}
use Rattle.std.specs.List.{list_all}
use Rattle.corr_text.specs.Sets.{is_in}
use Rattle.corr_text.specs.declared.set.Set.TheVariants.{X, N}
use Rattle.corr_ids.specs.Day.{day_of, yymmdd_of}
use Rattle.corr_ids.proofs.laws.DaySpelling.{day-again, day-named}
use Rattle.corr_money.specs.Amounts.{amount_text}
use Rattle.corr_money.proofs.laws.Written.{reads_written}
use Rattle.fin_fields.specs.Patterns.{is_run}
use Rattle.fin_fields.specs.Writing.{letter_text}
use Rattle.fin_fields.specs.declared.field.Field.{Field}
use Rattle.fin_contents.specs.Money.{coded, minor_in}
use Rattle.fin_contents.proofs.laws.Again.{coded-ok, small-amount}
use Rattle.fin_contents.proofs.laws.Steps.{read-then, there}
use Rattle.mt950.specs.Entry.{line_of}
use Rattle.mt950.specs.Parts.{LineParts, detail_in, line_parts}
use Rattle.mt950.specs.Writing.{IsWritableLine, detail_lines, line_field_61, line_text, mark_text, part_text, servicer_text}
use Rattle.mt950.specs.declared.entry.Line61.{Line61}
use Rattle.mt950.proofs.Amount.{amount-text}
use Rattle.mt950.proofs.BalanceFields.{date-digits}
use Rattle.mt950.proofs.LineParts.{amount-again, cut-parts, date-again, entry-again, entry-read, funds-again, funds-read, kind-again, kind-ends, kind-read, mark-again, parts-cut, references-again, references-read}
use Rattle.mt950.proofs.Steps.{some-if}

-- ---- what is written

-- the parts of a line as it is written
abbrev parts_of : ℕ → Line61 → LineParts
parts_of decimals line = record {
  date = yymmdd_of line.value;
  entry = line.entry;
  mark = line.mark;
  funds = line.funds;
  amount = amount_text decimals line.amount.0;
  kind = line.kind;
  reference = line.reference;
  servicer = line.servicer;
}

-- each part in front of those after it
pub line-nested : (decimals : ℕ) (line : Line61)
    → line_text decimals line
    ≡ yymmdd_of line.value
    ++ (part_text line.entry
    ++ (mark_text line.mark
    ++ (letter_text line.funds ++ (amount_text decimals line.amount.0 ++ (line.kind ++ (line.reference ++ servicer_text line.servicer))))))
line-nested decimals line =
    nested (yymmdd_of line.value) (part_text line.entry) (mark_text line.mark) (letter_text line.funds)
    (amount_text decimals line.amount.0) line.kind line.reference (servicer_text line.servicer)
  where
    nested : (a b c d e f g h : List ℕ) → a ++ b ++ c ++ d ++ e ++ f ++ g ++ h ≡ a ++ (b ++ (c ++ (d ++ (e ++ (f ++ (g ++ h))))))
    nested a b c d e f g h = simp append_assoc

nonempty : (text rest : List ℕ) (first : ℕ) → text ≡ first ∷ rest → 0 < length text
nonempty text rest first e = rw e (omega arith)

parts-again : (decimals : ℕ) (line : Line61) → IsWritableLine decimals line → line_parts (line_text decimals line) ≡ Some (parts_of decimals line)
parts-again decimals line is =
    let text : List ℕ = amount_text decimals line.amount.0 in
    let amount = amount-text decimals line.amount.0 is.few is.small in
    let kind = kind-ends line.kind is.four is.kind in
    let references : List ℕ = line.reference ++ servicer_text line.servicer in
    let after_funds : List ℕ = text ++ (line.kind ++ references) in
    let after_mark : List ℕ = letter_text line.funds ++ after_funds in
    let after_entry : List ℕ = mark_text line.mark ++ after_mark in
    let ends = amount-again text (kind.1 ++ references) kind.0 amount.goes (nonempty text amount.rest amount.first amount.same) kind.3 in
    let begins = funds-again line.funds amount.first (amount.rest ++ (line.kind ++ references)) is.funds amount.digit in
    rw (line-nested decimals line) (cut-parts (yymmdd_of line.value ++ (part_text line.entry ++ after_entry)) (parts_of decimals line) (record {
      after_date = part_text line.entry ++ after_entry;
      after_entry = after_entry;
      after_mark = after_mark;
      after_funds = after_funds;
      after_amount = line.kind ++ references;
      after_kind = references;
      date = date-again (yymmdd_of line.value) (part_text line.entry ++ after_entry) refl (date-digits line.value is.value);
      entry = entry-again line.entry line.mark after_mark is.entry;
      mark = mark-again line.mark after_mark;
      funds = rw (amount.same) begins;
      amount = rw (kind.2) ends;
      kind = kind-again line.kind references is.four is.kind;
      references = references-again line.reference line.servicer is.reference is.ended is.servicer;
    }))

detail-again : (first : List ℕ) (detail : Option (List ℕ)) → IfSome detail (λ text. IsTrue (is_run (is_in X) 34 text))
    → detail_in (first ∷ detail_lines detail) ≡ Some (first, detail)
detail-again first None is = refl
detail-again first (Some detail) is = rw is refl

-- a line that is written is read
pub line-again : (decimals : ℕ) (line : Line61) → IsWritableLine decimals line → line_of decimals (line_field_61 decimals line) ≡ Ok line
unfolding line_of
line-again decimals line is =
    let minor : minor_in decimals (amount_text decimals line.amount.0) ≡ Ok line.amount =
    ap coded (reads_written decimals line.amount.0 is.few is.small) in
    rw (detail-again (line_text decimals line) line.detail is.detail, parts-again decimals line is, day-again line.value is.value, minor) refl

-- ---- what is read

-- what is known of a line that was read
pub record LineRead (decimals : ℕ) (f : Field) (line : Line61) : Type 0 where
  pub is : IsWritableLine decimals line
  pub first : List ℕ
  pub lines : f.lines ≡ first ∷ detail_lines line.detail

detail-read : (lines : List (List ℕ)) (first : List ℕ) (detail : Option (List ℕ)) → detail_in lines ≡ Some (first, detail)
    → (lines ≡ first ∷ detail_lines detail) × IfSome detail (λ text. IsTrue (is_run (is_in X) 34 text))
detail-read [] first detail e = absurd (cc e)
detail-read (l ∷ []) first detail e =
    let pair : (l, None) ≡ (first, detail) = cc e in
    subst (λ (x : List ℕ × Option (List ℕ)). (l ∷ [] ≡ x.0 ∷ detail_lines x.1) × IfSome x.1 (λ text. IsTrue (is_run (is_in X) 34 text))) pair (refl, tt)
detail-read (l ∷ m ∷ []) first detail e =
    let s = some-if (is_run (is_in X) 34 m) (Some (l, Some m)) (first, detail) e in
    let pair : (l, Some m) ≡ (first, detail) = cc s.1 in
    subst (λ (x : List ℕ × Option (List ℕ)). (l ∷ m ∷ [] ≡ x.0 ∷ detail_lines x.1) × IfSome x.1 (λ text. IsTrue (is_run (is_in X) 34 text))) pair
    (refl, s.0)
detail-read (l ∷ m ∷ n ∷ more) first detail e = absurd (cc e)

pub line-read : (decimals : ℕ) (f : Field) (line : Line61) → decimals ≤ 4 → line_of decimals f ≡ Ok line → LineRead decimals f line
unfolding line_of
line-read decimals f line few e =
    let lines = there (detail_in f.lines) _ _ line e in
    let parts = there (line_parts lines.0.0) _ _ line lines.2 in
    let value = there (day_of parts.0.date) _ _ line parts.2 in
    let amount = read-then (minor_in decimals parts.0.amount) _ line value.2 in
    let same : record {
      value = value.0;
      entry = parts.0.entry;
      mark = parts.0.mark;
      funds = parts.0.funds;
      amount = amount.0;
      kind = parts.0.kind;
      reference = parts.0.reference;
      servicer = parts.0.servicer;
      detail = lines.0.1;
    } ≡ line =
    cc amount.2 in
    let detail = detail-read f.lines lines.0.0 lines.0.1 lines.1 in
    let cut = parts-cut lines.0.0 parts.0 parts.1 in
    let kind = kind-read cut.after_amount parts.0.kind cut.after_kind cut.kind in
    let references = references-read cut.after_kind parts.0.reference parts.0.servicer cut.references in
    let small = (small-amount decimals parts.0.amount amount.0 (coded-ok _ amount.0 amount.1)).1 in
    let entry : IfSome parts.0.entry (λ entry. (length entry ≡ 4) × IsTrue (list_all (is_in N) entry)) =
    subst (λ (x : Option (List ℕ) × List ℕ). IfSome x.0 (λ entry. (length entry ≡ 4) × IsTrue (list_all (is_in N) entry))) cut.entry
    (entry-read cut.after_date) in
    let funds : IfSome parts.0.funds (λ letter. is_ascii_uppercase letter ≡ true) =
    subst (λ (x : Option ℕ × List ℕ). IfSome x.0 (λ letter. is_ascii_uppercase letter ≡ true)) cut.funds (funds-read cut.after_mark) in
    rw (← same) (record {
      is = record {
        value = (day-named parts.0.date value.0 value.1).0;
        entry = entry;
        funds = funds;
        small = small;
        few = few;
        four = kind.0;
        kind = kind.1;
        reference = references.run;
        ended = references.ended;
        servicer = references.after;
        detail = detail.1;
      };
      first = lines.0.0;
      lines = detail.0;
    })
