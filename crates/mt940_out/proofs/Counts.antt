-- Faults of fields by the fields ahead of them.
use Rattle.std.proofs.Common.{◌≡◌, ℕ, suc, ◌+◌, ◌/◌, ◌%◌, ◌<◌, ◌≤◌, ◌==◌, ◌&&◌, Bool, true, false, cond, List, [], ◌∷◌, ◌++◌, length, take, Some, refl, sym, ap, ◌∙◌, arith, slice_get, option_map, Option, nat_le}
use Rattle.std.specs.Prelude.{count_by, nat_eq, unwrap_or}
use Rattle.std.proofs.lemmas.Bool.Decides.{nat_tests}
use Rattle.std.proofs.lemmas.List.Sums.{sum_by-append, sum_by_push}
use Rattle.corr_text.specs.declared.fault.Code.{Code}
use Rattle.corr_text.specs.declared.fault.Fault.{Fault}
use Rattle.fin_fields.specs.Faults.{is_like, letter_of, tag_of}
use Rattle.fin_fields.specs.declared.field.Field.{Field}
use Rattle.fin_layout.specs.Naming.{fault_at}
use Rattle.mt940_out.specs.inner.Faults.{has_tag, is_ahead}
use Rattle.mt940_out.specs.Order.{is_note}

-- ---- a fault of the field behind others

get-here : {X : Type 0} (pre : List X) (x : X) (xs : List X) → slice_get (pre ++ x ∷ xs) (length pre) ≡ Some x
get-here [] x xs = refl
get-here (p ∷ pre) x xs = get-here pre x xs

take-past : {X : Type 0} (pre : List X) (x : X) (xs : List X) → take (suc (length pre)) (pre ++ x ∷ xs) ≡ pre ++ x ∷ []
take-past [] x xs = refl
take-past (p ∷ pre) x xs = ap (λ ys. p ∷ ys) (take-past pre x xs)

abbrev pub told_behind : List Field → Field → Code → Fault
told_behind pre f c = record { code = c; tag = tag_of f; nth = count_by (is_like f) (pre ++ f ∷ []) }

-- the fault of a field that may be there, which these fields end with
abbrev told_of : Code → List Field → Option Field → Fault
told_of c front o = record { code = c; tag = unwrap_or (option_map tag_of o) []; nth = unwrap_or (option_map (λ f. count_by (is_like f) front) o) 0 }

pub fault-behind : (whole pre : List Field) (f : Field) (fs : List Field) (i : ℕ) (c : Code) → whole ≡ pre ++ f ∷ fs → i ≡ length pre
    → fault_at whole i c ≡ told_behind pre f c
fault-behind whole pre f fs i c e at =
    let more : length pre + 1 ≡ suc (length pre) = omega arith in
    let front : take (length pre + 1) (pre ++ f ∷ fs) ≡ pre ++ f ∷ [] = ap (λ (n : ℕ). take n (pre ++ f ∷ fs)) more ∙ take-past pre f fs in
    let here : slice_get (pre ++ f ∷ fs) (length pre) ≡ Some f = get-here pre f fs in
    ap (λ (fs : List Field). fault_at fs i c) e ∙ ap (λ (n : ℕ). fault_at (pre ++ f ∷ fs) n c) at
    ∙ ap (λ (ts : List Field). told_of c ts (slice_get (pre ++ f ∷ fs) (length pre))) front
    ∙ ap (told_of c (pre ++ f ∷ [])) here

-- ---- tags

same-digits : (g f : ℕ) (l : Bool) → (nat_eq (48 + g / 10) (48 + f / 10) && (nat_eq (48 + g % 10) (48 + f % 10) && (l && true))) ≡ ((g == f) && l)
same-digits g f true = grind (arith, nat_tests)
same-digits g f false = grind (arith, nat_tests)

pub tag-like : (f g : Field) → has_tag (tag_of f) g ≡ is_like f g
tag-like f g = same-digits g.tag f.tag (letter_of g == letter_of f)

-- as many fields have the tag of a field as are like it
pub tag-count : (f : Field) (fs : List Field) → count_by (has_tag (tag_of f)) fs ≡ count_by (is_like f) fs
tag-count f fs = ap (λ (p : Field → Bool). count_by p fs) (λ i g. tag-like f g i)

pub like-itself : (f : Field) → is_like f f ≡ true
like-itself f = grind (arith, nat_tests)

-- ---- counts

-- one where it holds
abbrev pub one_if : Bool → ℕ
one_if b = cond b 1 0

pub count-push : (p : Field → Bool) (fs : List Field) (f : Field) → count_by p (fs ++ f ∷ []) ≡ count_by p fs + cond (p f) 1 0
count-push p fs f = sum_by_push (λ x. cond (p x) 1 0) fs f

pub count-front : (p : Field → Bool) (fs gs : List Field) → count_by p fs ≤ count_by p (fs ++ gs)
count-front p fs gs = omega (arith, sum_by-append (λ x. cond (p x) 1 0) fs gs)

-- the field itself counts
pub count-itself : (f : Field) (fs : List Field) → count_by (is_like f) (fs ++ f ∷ []) ≡ count_by (is_like f) fs + 1
count-itself f fs = count-push (is_like f) fs f ∙ ap (λ (b : Bool). count_by (is_like f) fs + cond b 1 0) (like-itself f)

-- ---- counts beside notes

-- of each field but an 86 there are as many like it among all as beside
pub record SameCounts (pre beside : List Field) : Type 0 where
  pub same : (f : Field) → is_note f ≡ false → count_by (is_like f) pre ≡ count_by (is_like f) beside

pub no-counts : SameCounts [] []
no-counts = record { same = λ f unmet. refl }

unlike : (nt nl ft fl : ℕ) → ((nt == 86) && (nl == 32)) ≡ true → ((ft == 86) && (fl == 32)) ≡ false → ((nt == ft) && (nl == fl)) ≡ false
unlike nt nl ft fl met unmet = grind (arith, nat_tests)

pub note-unlike : (n f : Field) → is_note n ≡ true → is_note f ≡ false → is_like f n ≡ false
note-unlike n f met unmet = unlike n.tag (letter_of n) f.tag (letter_of f) met unmet

pub counts-note : (pre beside : List Field) (n : Field) → SameCounts pre beside → is_note n ≡ true → SameCounts (pre ++ n ∷ []) beside
counts-note pre beside n s met = record {
  same = λ f unmet.
      let push = count-push (is_like f) pre n in
      let other : one_if (is_like f n) ≡ 0 = ap one_if (note-unlike n f met unmet) in
      omega (arith, push, other, s.same f unmet);
}

pub counts-field : (pre beside : List Field) (g : Field) → SameCounts pre beside → SameCounts (pre ++ g ∷ []) (beside ++ g ∷ [])
counts-field pre beside g s = record {
  same = λ f unmet. count-push (is_like f) pre g ∙ ap (λ (n : ℕ). n + cond (is_like f g) 1 0) (s.same f unmet) ∙ sym (count-push (is_like f) beside g);
}

-- so a fault is told of it alike
pub told-alike : (pre beside : List Field) (f : Field) (c : Code) → SameCounts pre beside → is_note f ≡ false → told_behind pre f c ≡ told_behind beside f c
told-alike pre beside f c s unmet =
    ap (λ (n : ℕ). record { code = c; tag = tag_of f; nth = n })
    (count-itself f pre ∙ ap (λ (n : ℕ). n + 1) (s.same f unmet) ∙ sym (count-itself f beside))

-- ---- whether a fault is ahead

le-true : (m n : ℕ) → m ≤ n → nat_le m n ≡ true
le-true m n le = grind (arith, nat_tests)

le-false : (m n : ℕ) → n < m → nat_le m n ≡ false
le-false m n lt = grind (arith, nat_tests)

-- that of a field among those ahead is
pub ahead-within : (pre : List Field) (f : Field) (fs : List Field) (c : Code) → is_ahead ((pre ++ f ∷ []) ++ fs) (told_behind pre f c) ≡ true
ahead-within pre f fs c =
    le-true (count_by (is_like f) (pre ++ f ∷ [])) (count_by (has_tag (tag_of f)) ((pre ++ f ∷ []) ++ fs))
    (rw (tag-count f ((pre ++ f ∷ []) ++ fs)) (count-front (is_like f) (pre ++ f ∷ []) fs))

-- that of a field behind them isn't, where at least as many like it stand beside
pub not-ahead : (pre beside : List Field) (f : Field) (c : Code) → count_by (is_like f) pre ≤ count_by (is_like f) beside → is_ahead pre (told_behind beside f c) ≡ false
not-ahead pre beside f c le =
    le-false (count_by (is_like f) (beside ++ f ∷ [])) (count_by (has_tag (tag_of f)) pre)
    (omega (arith, le, tag-count f pre, count-itself f beside))
