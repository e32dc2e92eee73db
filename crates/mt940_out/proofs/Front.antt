-- Ahead of an 86 no field stands that a rule on the currencies is told of.
use Rattle.std.proofs.Common.{◌≡◌, ℕ, zero, suc, ◌+◌, ◌<◌, ◌≤◌, ◌==◌, ◌&&◌, ◌⊎◌, Bool, true, false, List, [], ◌∷◌, ◌++◌, length, get_or, take, Some, None, refl, sym, ap, ◌∙◌, subst, arith, inl, inr, nat_le}
use Rattle.std.specs.Prelude.{codes, count_by}
use Rattle.std.proofs.lemmas.Bool.{cases_Bool, cases_lt, eqb-true}
use Rattle.std.proofs.lemmas.List.{take_at}
use Rattle.corr_text.specs.Codes.{code}
use Rattle.corr_text.specs.First.{first_of, unless}
use Rattle.corr_text.specs.declared.fault.Code.{Code}
use Rattle.corr_text.specs.declared.fault.Fault.{Fault}
use Rattle.fin_fields.specs.declared.field.Field.{Field}
use Rattle.fin_layout.specs.Order.{free_after}
use Rattle.fin_layout.proofs.laws.Grouped.{free_after-bounds}
use Rattle.fin_contents.proofs.laws.Bytes.{and-both}
use Rattle.mt950.specs.Order.{order_950}
use Rattle.mt950.specs.Rules.{currency_rules, is_same, of_available, same_two_letters}
use Rattle.mt950.specs.declared.said.Said.{Said}
use Rattle.mt940_out.specs.inner.Faults.{first_bad_note, has_tag, is_ahead}
use Rattle.mt940_out.specs.Order.{is_line, is_note, places_940}
use Rattle.mt940_out.specs.Page.{is_note_text}
use Rattle.mt940_out.proofs.Contents.{counted, moved}
use Rattle.mt940_out.proofs.Counts.{count-push, one_if}
use Rattle.mt940_out.proofs.Steps.{Step, Takes, bad-note, good-note, no-note, places-note, places-placed, places-unplaced, step-of, tag-no-line, tags, takes-placed}

-- ---- behind 62a there is no 86

-- each field takes a place
abbrev pub AllPlaced : ℕ → Bool → List Field → Type 0
AllPlaced free behind fs = length (places_940 free behind fs) ≡ length fs

pub placed-next : (free : ℕ) (behind : Bool) (f : Field) (fs : List Field) (unmet : (behind && is_note f) ≡ false) (k : ℕ) → Takes free f k
    → AllPlaced free behind (f ∷ fs) → AllPlaced (free_after order_950 k) (is_line f) fs
placed-next free behind f fs unmet k takes len = omega (arith, ap length (places-placed free behind f fs unmet k takes), len)

pub placed-note : (free : ℕ) (behind : Bool) (f : Field) (fs : List Field) → (behind && is_note f) ≡ true → AllPlaced free behind (f ∷ fs) → AllPlaced free false fs
placed-note free behind f fs met len = omega (arith, ap length (places-note free behind f fs met), len)

abbrev NoneLater : List Field → Type 0
NoneLater fs = (free i : ℕ) → 5 ≤ free → AllPlaced free false fs → first_bad_note i false fs ≡ None

module _ (f : Field) (fs : List Field) (later : NoneLater fs) (free i : ℕ) (low : 5 ≤ free) (len : AllPlaced free false (f ∷ fs)) where
  none-step : Step free false f fs → first_bad_note i false (f ∷ fs) ≡ None
  none-step (inl met) = absurd (cc met)
  none-step (inr (unmet, inl none)) = absurd (cc (sym (ap length (places-unplaced free false f fs unmet none)) ∙ len))
  none-step (inr (unmet, inr (k, takes))) =
      let p = takes-placed free k f takes in
      let high : 5 ≤ k = omega (arith, low, p.from) in
      let other : is_line f ≡ false = tag-no-line k f high p.within p.tag in
      let next = placed-next free false f fs unmet k takes len in
      let here : AllPlaced (free_after order_950 k) false fs = subst (λ (b : Bool). AllPlaced (free_after order_950 k) b fs) other next in
      no-note free false f fs i unmet ∙ ap (λ (b : Bool). first_bad_note (i + 1) b fs) other
      ∙ later (free_after order_950 k) (i + 1) (omega (arith, high, (free_after-bounds order_950 k).0)) here

none-later : (fs : List Field) → NoneLater fs
none-later [] = λ free i low len. refl
none-later (f ∷ fs) = λ free i low len. none-step f fs (none-later fs) free i low len (step-of free false f fs)

-- ---- the fields ahead of an 86 have none of these tags

-- a tag that neither an 86 nor a field has that comes before 62a
pub record IsClosing (tag : List ℕ) : Type 0 where
  pub apart : (k : ℕ) (f : Field) → k < 5 → f.tag ≡ get_or tags k 0 → has_tag tag f ≡ false
  pub no_note : (f : Field) → f.tag ≡ 86 → has_tag tag f ≡ false

note-tag : (f : Field) → is_note f ≡ true → f.tag ≡ 86
note-tag f e = eqb-true f.tag 86 (and-both (f.tag == 86) _ e).0

module _ (tag : List ℕ) (is : IsClosing tag) where
  none-pushed : (pre : List Field) (f : Field) → count_by (has_tag tag) pre ≡ 0 → has_tag tag f ≡ false → count_by (has_tag tag) (pre ++ f ∷ []) ≡ 0
  none-pushed pre f none other = let one : one_if (has_tag tag f) ≡ 0 = ap one_if other in omega (arith, count-push (has_tag tag) pre f, none, one)

  abbrev NoneAhead : List Field → Type 0
  NoneAhead fs = (free : ℕ) (behind : Bool) (whole pre : List Field) (i n : ℕ) → whole ≡ pre ++ fs → i ≡ length pre → count_by (has_tag tag) pre ≡ 0
      → AllPlaced free behind fs → first_bad_note i behind fs ≡ Some n → count_by (has_tag tag) (take n whole) ≡ 0

  module _ (f : Field) (fs : List Field) (later : NoneAhead fs) (free : ℕ) (behind : Bool) (whole pre : List Field) (i n : ℕ) (e : whole ≡ pre ++ f ∷ fs)
      (at : i ≡ length pre) (none : count_by (has_tag tag) pre ≡ 0) (len : AllPlaced free behind (f ∷ fs)) (bad : first_bad_note i behind (f ∷ fs) ≡ Some n) where
    abbrev None_here : Type 0
    None_here = count_by (has_tag tag) (take n whole) ≡ 0

    at-note : (behind && is_note f) ≡ true → (is_note_text f.lines ≡ true) ⊎ (is_note_text f.lines ≡ false) → None_here
    at-note met (inl good) =
        let other = is.no_note f (note-tag f (and-both behind (is_note f) met).1) in
        later free false whole (pre ++ f ∷ []) (i + 1) n (moved whole pre f fs e) (counted pre f i at) (none-pushed pre f none other)
        (placed-note free behind f fs met len) (sym (good-note free behind f fs i met good) ∙ bad)
    at-note met (inr faulty) =
        let here : i ≡ n = cc (sym (bad-note free behind f fs i met faulty) ∙ bad) in
        let front : take n whole ≡ pre = ap (take n) e ∙ take_at pre (f ∷ fs) n (sym at ∙ here) in
        ap (count_by (has_tag tag)) front ∙ none

    at-field : (unmet : (behind && is_note f) ≡ false) (k : ℕ) → Takes free f k → (k < 5) ⊎ (5 ≤ k) → None_here
    at-field unmet k takes (inl low) =
        let other = is.apart k f low (takes-placed free k f takes).tag in
        later (free_after order_950 k) (is_line f) whole (pre ++ f ∷ []) (i + 1) n (moved whole pre f fs e) (counted pre f i at) (none-pushed pre f none other)
        (placed-next free behind f fs unmet k takes len) (sym (no-note free behind f fs i unmet) ∙ bad)
    at-field unmet k takes (inr high) =
        let p = takes-placed free k f takes in
        let line : is_line f ≡ false = tag-no-line k f high p.within p.tag in
        let next : AllPlaced (free_after order_950 k) false fs =
        subst (λ (b : Bool). AllPlaced (free_after order_950 k) b fs) line (placed-next free behind f fs unmet k takes len) in
        let nothing = none-later fs (free_after order_950 k) (i + 1) (omega (arith, high, (free_after-bounds order_950 k).0)) next in
        absurd (cc (sym nothing ∙ ap (λ (b : Bool). first_bad_note (i + 1) b fs) (sym line) ∙ sym (no-note free behind f fs i unmet) ∙ bad))

    none-here : Step free behind f fs → None_here
    none-here (inl met) = at-note met (cases_Bool (is_note_text f.lines))
    none-here (inr (unmet, inl unplaced)) = absurd (cc (sym (ap length (places-unplaced free behind f fs unmet unplaced)) ∙ len))
    none-here (inr (unmet, inr (k, takes))) = at-field unmet k takes (cases_lt k 5)

  none-ahead : (fs : List Field) → NoneAhead fs
  none-ahead [] = λ free behind whole pre i n e at none len bad. absurd (cc bad)
  none-ahead (f ∷ fs) = λ free behind whole pre i n e at none len bad.
      none-here f fs (none-ahead fs) free behind whole pre i n e at none len bad (step-of free behind f fs)

  pub closing-behind : (fs : List Field) (n : ℕ) (c : Code) → AllPlaced 0 false fs → first_bad_note 0 false fs ≡ Some n
      → is_ahead (take n fs) (record { code = c; tag = tag; nth = 1 }) ≡ false
  closing-behind fs n c len bad = ap (λ (m : ℕ). nat_le 1 m) (none-ahead fs 0 false fs [] 0 n refl refl refl len bad)

-- ---- the rules are told of such

-- 62 without a letter, and 64
closing-62 : IsClosing (codes "62 ")
closing-62 = record { apart = apart; no_note = λ f e. rw e refl }
  where
    apart : (k : ℕ) (f : Field) → k < 5 → f.tag ≡ get_or tags k 0 → has_tag (codes "62 ") f ≡ false
    apart zero f lt e = rw e refl
    apart (suc zero) f lt e = rw e refl
    apart (suc (suc zero)) f lt e = rw e refl
    apart (suc (suc (suc zero))) f lt e = rw e refl
    apart (suc (suc (suc (suc zero)))) f lt e = rw e refl
    apart (suc (suc (suc (suc (suc k))))) f lt e = absurd (omega (arith, lt))

closing-64 : IsClosing (codes "64 ")
closing-64 = record { apart = apart; no_note = λ f e. rw e refl }
  where
    apart : (k : ℕ) (f : Field) → k < 5 → f.tag ≡ get_or tags k 0 → has_tag (codes "64 ") f ≡ false
    apart zero f lt e = rw e refl
    apart (suc zero) f lt e = rw e refl
    apart (suc (suc zero)) f lt e = rw e refl
    apart (suc (suc (suc zero))) f lt e = rw e refl
    apart (suc (suc (suc (suc zero)))) f lt e = rw e refl
    apart (suc (suc (suc (suc (suc k))))) f lt e = absurd (omega (arith, lt))

one-of : (a b c : Bool) (x y z fault : Fault) → first_of (unless a x ∷ unless b y ∷ unless c z ∷ []) ≡ Some fault → (x ≡ fault) ⊎ ((y ≡ fault) ⊎ (z ≡ fault))
one-of false b c x y z fault e = inl (cc e)
one-of true false c x y z fault e = inr (inl (cc e))
one-of true true false x y z fault e = inr (inr (cc e))
one-of true true true x y z fault e = absurd (cc e)

-- a broken rule is told of a field that isn't ahead
module _ (said : Said) (fault : Fault) (fs : List Field) (n : ℕ) (len : AllPlaced 0 false fs) (bad : first_bad_note 0 false fs ≡ Some n) where
  not-ahead-of : (told : Fault) → told ≡ fault → is_ahead (take n fs) told ≡ false → is_ahead (take n fs) fault ≡ false
  not-ahead-of told e unmet = subst (λ (x : Fault). is_ahead (take n fs) x ≡ false) e unmet

  abbrev first_told : Fault
  first_told = record { code = code "C27"; tag = codes "62 "; nth = 1 }

  abbrev second_told : Fault
  second_told = record { code = code "P24"; tag = codes "62 "; nth = 1 }

  abbrev third_told : Fault
  third_told = record { code = code "P24"; tag = codes "64 "; nth = 1 }

  by-rule : (first_told ≡ fault) ⊎ ((second_told ≡ fault) ⊎ (third_told ≡ fault)) → is_ahead (take n fs) fault ≡ false
  by-rule (inl e) = not-ahead-of first_told e (closing-behind (codes "62 ") closing-62 fs n (code "C27") len bad)
  by-rule (inr (inl e)) = not-ahead-of second_told e (closing-behind (codes "62 ") closing-62 fs n (code "P24") len bad)
  by-rule (inr (inr e)) = not-ahead-of third_told e (closing-behind (codes "64 ") closing-64 fs n (code "P24") len bad)

  pub rule-behind : first_of (currency_rules said) ≡ Some fault → is_ahead (take n fs) fault ≡ false
  rule-behind first =
      by-rule
      (one-of (same_two_letters said.opening.ccy said.closing.ccy && of_available same_two_letters said) (is_same said.opening.ccy said.closing.ccy)
      (of_available is_same said) first_told second_told third_told fault first)
