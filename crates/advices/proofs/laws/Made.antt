-- What is made new or taken over from field 20 is read: our references, ids of accounts.
use Rattle.std.proofs.Common.{◌≡◌, ℕ, zero, suc, ◌+◌, ◌-◌, ◌≤◌, ◌==◌, ◌&&◌, ◌||◌, not, Bool, true, false, List, [], ◌∷◌, length, drop, None, Ok, refl, sym, ap, ◌∙◌, arith, nat_le}
use Rattle.std.specs.Char.{is_ascii_digit}
use Rattle.std.specs.Fmt.{decimal}
use Rattle.std.specs.List.{list_all, list_any, zip}
use Rattle.std.proofs.lemmas.Bool.{le-leb}
use Rattle.std.proofs.lemmas.Bool.Decides.{nat_tests}
use Rattle.std.proofs.lemmas.Fmt.{length-decimal-le}
use Rattle.std.proofs.lemmas.List.{length-append}
use Rattle.std.proofs.lemmas.List.Folds.{list_all-append}
use Rattle.corr_text.specs.Digits.{padded}
use Rattle.corr_text.specs.Lines.{begins_with}
use Rattle.corr_text.specs.Sets.{is_in}
use Rattle.corr_text.specs.Slashes.{has_stray_slash}
use Rattle.corr_text.specs.declared.set.Set.TheVariants.{X}
use Rattle.corr_text.proofs.laws.Number.{length-padded}
use Rattle.fin_fields.specs.Patterns.{is_run}
use Rattle.fin_fields.specs.declared.field.Field.{Field}
use Rattle.fin_contents.specs.Plain.{one_line, reference_of, short_line_of}
use Rattle.fin_contents.specs.Writing.{line_field}
use Rattle.fin_contents.proofs.laws.Bytes.{and-both}
use Rattle.fin_contents.proofs.laws.Steps.{checked, there}
use Rattle.day_model.specs.Shape.{IsReference}
use Rattle.advices.specs.Fields.{ours}
use Rattle.advices.specs.inner.Spelled.{IsPlain}
use Rattle.advices.proofs.laws.Bytes.{decimal-digits, ours-plain, padded-digits}

-- ---- no slash

abbrev is_other : ℕ → Bool
is_other b = not (b == 47)

begins-other : (bs : List ℕ) → list_all is_other bs ≡ true → begins_with 47 bs ≡ false
begins-other [] e = refl
begins-other (b ∷ bs) e = not-true (b == 47) (and-both (is_other b) (list_all is_other bs) e).0
  where
    not-true : (x : Bool) → not x ≡ true → x ≡ false
    not-true true h = absurd (cc h)
    not-true false h = refl

dropped-other : (n : ℕ) (bs : List ℕ) → list_all is_other bs ≡ true → list_all is_other (drop n bs) ≡ true
dropped-other zero bs e = e
dropped-other (suc n) [] e = refl
dropped-other (suc n) (b ∷ bs) e = dropped-other n bs (and-both (is_other b) (list_all is_other bs) e).1

double-other : (bs cs : List ℕ) → list_all is_other bs ≡ true → list_any (λ p. (p.0 == 47) && (p.1 == 47)) (zip bs cs) ≡ false
double-other [] [] e = refl
double-other [] (c ∷ cs) e = refl
double-other (b ∷ bs) [] e = refl
double-other (b ∷ bs) (c ∷ cs) e =
    let both = and-both (is_other b) (list_all is_other bs) e in
    go (b == 47) both.0 (double-other bs cs both.1)
  where
    go : (x : Bool) → not x ≡ true → list_any (λ p. (p.0 == 47) && (p.1 == 47)) (zip bs cs) ≡ false
        → ((x && (c == 47)) || list_any (λ p. (p.0 == 47) && (p.1 == 47)) (zip bs cs)) ≡ false
    go true h later = absurd (cc h)
    go false h later = later

no-stray : (bs : List ℕ) → list_all is_other bs ≡ true → has_stray_slash bs ≡ false
no-stray bs e = rw (begins-other bs e, begins-other (drop (length bs - 1) bs) (dropped-other (length bs - 1) bs e), double-other bs (drop 1 bs) e) refl

digit-other : (b : ℕ) → is_ascii_digit b ≡ true → is_other b ≡ true
digit-other b e = grind (arith, nat_tests)

digits-other : (bs : List ℕ) → list_all is_ascii_digit bs ≡ true → list_all is_other bs ≡ true
digits-other [] e = refl
digits-other (b ∷ bs) e =
    let both = and-both (is_ascii_digit b) (list_all is_ascii_digit bs) e in
    rw (digit-other b both.0) (digits-other bs both.1)

-- ---- our references

module _ (place k : ℕ) (small : place ≤ 100000) (few : k ≤ 255) where
  ours-other : list_all is_other (ours place k) ≡ true
  ours-other =
      list_all-append is_other (padded 8 place) (75 ∷ decimal k)
      ∙ rw (
        digits-other (padded 8 place) (padded-digits 8 place (omega (arith, small)) (omega arith)),
        digits-other (decimal k) (decimal-digits k (omega (arith, few))),
      ) refl

  ours-long : length (ours place k) ≡ 10 + length (decimal k)
  ours-long =
      let eight : length (padded 8 place) ≡ 8 = length-padded 8 place (omega arith) (omega (arith, small)) (omega (arith, small)) in
      omega (arith, length-append (padded 8 place) (75 ∷ decimal k), eight)

  ours-run : is_run (is_in X) 16 (ours place k) ≡ true
  ours-run =
      let three : length (decimal k) ≤ 3 = length-decimal-le 3 k (omega arith) (omega (arith, few)) (omega (arith, few)) in
      let some : nat_le 1 (length (ours place k)) ≡ true = le-leb 1 (length (ours place k)) (omega (arith, ours-long)) in
      let short : nat_le (length (ours place k)) 16 ≡ true = le-leb (length (ours place k)) 16 (omega (arith, ours-long, three)) in
      rw (some, short, ours-plain place k (omega (arith, small)) (omega (arith, few))) refl

  pub ours-read : (tag : ℕ) → reference_of (line_field tag None (ours place k)) ≡ Ok (ours place k)
  unfolding reference_of
  ours-read tag = rw (ours-run, no-stray (ours place k) ours-other) refl

-- ---- a line that is no longer than wanted

pub line-read : (most tag : ℕ) (line : List ℕ) → 1 ≤ length line → length line ≤ most → IsPlain line
    → short_line_of most (line_field tag None line) ≡ Ok line
unfolding short_line_of
line-read most tag line some short plain =
    rw (le-leb 1 (length line) some, le-leb (length line) most short, plain) refl

-- a reference is one of 16 bytes
pub reference-short : (tag : ℕ) (f : Field) (x : List ℕ) → reference_of f ≡ Ok x → short_line_of 16 (line_field tag None x) ≡ Ok x
unfolding reference_of short_line_of
reference-short tag f x e =
    let line = there (one_line f) _ _ x e in
    let run = checked (is_run (is_in X) 16 line.0) _ _ x line.2 in
    let plain = checked (not (has_stray_slash line.0)) _ _ x run.1 in
    let same : line.0 ≡ x = cc plain.1 in
    let fits : is_run (is_in X) 16 x ≡ true = ap (λ (y : List ℕ). is_run (is_in X) 16 y) (sym same) ∙ run.0 in
    rw fits refl

pub reference-line : (f : Field) (x : List ℕ) → reference_of f ≡ Ok x → short_line_of 16 f ≡ Ok x
unfolding reference_of short_line_of
reference-line f x e =
    let line = there (one_line f) _ _ x e in
    let run = checked (is_run (is_in X) 16 line.0) _ _ x line.2 in
    let plain = checked (not (has_stray_slash line.0)) _ _ x run.1 in
    rw (line.1, run.0) plain.1

-- and what meets a reference's grammar is read as one
pub reference-made : (tag : ℕ) (x : List ℕ) → IsReference x → reference_of (line_field tag None x) ≡ Ok x
unfolding reference_of
reference-made tag x is = rw (le-leb 1 (length x) is.given, le-leb (length x) 16 is.short, is.plain, is.slashes) refl
