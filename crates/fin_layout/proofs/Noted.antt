-- Places that are noted as taken.
use Rattle.std.proofs.Common.{◌≡◌, ℕ, ◌+◌, ◌<◌, ◌≤◌, ◌≢◌, ◌==◌, Bool, true, false, List, [], ◌∷◌, ◌++◌, length, get_or, set, refl, sym, ap, subst, ◌∙◌, inl, inr, arith}
use Rattle.std.specs.Prelude.{◌||◌, None, Result, Ok, option_and_then, option_map, position, slice_get}
use Rattle.std.specs.List.{list_any}
use Rattle.std.proofs.lemmas.Bool.{cases_Bool, cases_lt, false≢true}
use Rattle.std.proofs.lemmas.Bool.Decides.{nat_tests}
use Rattle.std.proofs.lemmas.Grind.{get_or-set_at}
use Rattle.std.proofs.lemmas.List.{get_or-set_other, length-set}
use Rattle.std.proofs.lemmas.List.Folds.{list_any-append}
use Rattle.corr_text.specs.declared.fault.Code.{Code}
use Rattle.fin_fields.specs.declared.field.Field.{Field}
use Rattle.fin_fields.proofs.laws.Positions.{position-later}
use Rattle.fin_layout.specs.Contents.{all_from}
use Rattle.fin_layout.specs.Found.{AreNoted}
use Rattle.fin_layout.specs.inner.Found.{IsNotedToo}
use Rattle.fin_layout.specs.Order.{field_in, is_between}

or-true : (b : Bool) → (b || true) ≡ true
or-true true = refl
or-true false = refl

or-false : (b : Bool) → (b || false) ≡ b
or-false true = refl
or-false false = refl

neither : (b c : Bool) → (b || c) ≡ false → (b ≡ false) × (c ≡ false)
neither true c e = absurd (cc e)
neither false c e = (refl, e)

-- ---- one place more

noted-at : (taken : List Bool) (at k : ℕ) → at < length taken → get_or (set taken at true) k false ≡ (get_or taken k false || (at == k))
noted-at taken at k below =
    elim (cases_Bool (at == k)) [
      | inl same ↦
          let e : k ≡ at = grind (arith, nat_tests) in
          get_or-set_at taken at k true false e below ∙ sym (rw same (or-true (get_or taken k false)))
      | inr other ↦
          let e : k ≢ at = grind (arith, nat_tests) in
          get_or-set_other taken at k true false e ∙ sym (rw other (or-false (get_or taken k false)))
    ]

-- a place among those that are noted
pub note-set : (taken : List Bool) (at : ℕ) → at < length taken → IsNotedToo taken (set taken at true) at
note-set taken at below = record { long = length-set taken at true; noted = λ k less. noted-at taken at k below }

-- a place beyond them
pub note-none : (taken : List Bool) (at : ℕ) → length taken ≤ at → IsNotedToo taken taken at
note-none taken at beyond = record {
  long = refl;
  noted = λ k less.
      let other : (at == k) ≡ false = grind (arith, nat_tests) in
      sym (rw other (or-false (get_or taken k false)));
}

pub noted-none : (taken : List Bool) → length taken ≡ 64 → ((k : ℕ) → k < 64 → get_or taken k false ≡ false) → AreNoted taken []
noted-none taken long none = record { long = long; noted = none }

pub noted-more : {old new : List Bool} {places : List ℕ} (at : ℕ) → AreNoted old places → IsNotedToo old new at → AreNoted new (places ++ at ∷ [])
noted-more {old} {new} {places} at h more = record {
  long = more.long ∙ h.long;
  noted = λ k less.
      more.noted k (omega (arith, less, h.long)) ∙ ap (λ b. b || (at == k)) (h.noted k less)
      ∙ ap (λ b. list_any (λ p. p == k) places || b) (sym (or-false (at == k)))
      ∙ sym (list_any-append (λ p. p == k) places (at ∷ []));
}

-- ---- places of a row

-- where one of the row is taken
pub any-between : (first last k : ℕ) (places : List ℕ) → first ≤ k → k ≤ last → list_any (λ p. p == k) places ≡ true → list_any (is_between first last) places ≡ true
any-between first last k [] low high here = here
any-between first last k (p ∷ places) low high here = elim (cases_Bool (p == k)) [
  | inl same ↦
      let inside : is_between first last p ≡ true = grind (arith, nat_tests) in
      rw inside refl
  | inr other ↦
      let more = any-between first last k places low high (rw other at here) in
      rw more (or-true (is_between first last p))
]

-- where none of the row is taken
pub none-between : (first last : ℕ) (places : List ℕ) → ((k : ℕ) → first ≤ k → k < last + 1 → list_any (λ p. p == k) places ≡ false) → list_any (is_between first last) places ≡ false
none-between first last [] none = refl
none-between first last (p ∷ places) none = elim (cases_Bool (is_between first last p)) [
  | inl inside ↦
      let low : first ≤ p = grind (arith, nat_tests) in
      let high : p < last + 1 = grind (arith, nat_tests) in
      let same : (p == p) ≡ true = grind (arith, nat_tests) in
      absurd (false≢true (sym (none p low high) ∙ rw same refl))
  | inr outside ↦
      rw outside (none-between first last places (λ k low high. (neither (p == k) (list_any (λ q. q == k) places) (none k low high)).1))
]

-- one place more of the row
pub none-more : (first at : ℕ) (places : List ℕ) → ((k : ℕ) → first ≤ k → k < at → list_any (λ p. p == k) places ≡ false) → list_any (λ p. p == at) places ≡ false
    → (k : ℕ) → first ≤ k → k < at + 1 → list_any (λ p. p == k) places ≡ false
none-more first at places before here k low high = elim (cases_lt k at) [
  | inl less ↦ before k low less
  | inr most ↦
      let e : at ≡ k = omega arith in
      subst (λ n. list_any (λ p. p == n) places ≡ false) e here
]

-- ---- no field takes a place

position-none : (k : ℕ) (places : List ℕ) → list_any (λ p. p == k) places ≡ false → position (λ p. p == k) places ≡ None
position-none k [] none = refl
position-none k (p ∷ places) none =
    let both = neither (p == k) (list_any (λ q. q == k) places) none in
    position-later (λ q. q == k) p places both.0 ∙ ap (option_map (λ i. i + 1)) (position-none k places both.1)

pub none_found : (fs : List Field) (places : List ℕ) (k : ℕ) → list_any (λ p. p == k) places ≡ false → None ≡ field_in fs places k
none_found fs places k none = sym (ap (option_and_then (λ i. option_map (λ f. (i, f)) (slice_get fs i))) (position-none k places none))

pub none_read : {A : Type 0} (whole : List Field) (read : Field → Result A Code) (k i : ℕ) (places : List ℕ) (fs : List Field) → list_any (λ p. p == k) places ≡ false → all_from whole k read i places fs ≡ Ok []
unfolding all_from
none_read whole read k i [] fs none = refl
none_read whole read k i (p ∷ places) [] none = refl
none_read whole read k i (p ∷ places) (f ∷ fs) none =
    let both = neither (p == k) (list_any (λ q. q == k) places) none in
    rw both.0 (none_read whole read k (i + 1) places fs both.1)
