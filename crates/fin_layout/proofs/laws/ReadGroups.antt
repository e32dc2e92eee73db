-- Fields that are grouped by place are read group by group.
use Rattle.std.proofs.Common.{◌≡◌, ℕ, zero, suc, ◌+◌, ◌<◌, ◌==◌, true, false, List, [], ◌∷◌, ◌++◌, length, replicate, slice_get, Some, Result, Ok, Err, refl, ap, ◌∙◌, arith}
use Rattle.std.proofs.lemmas.Bool.Decides.{nat_tests}
use Rattle.std.proofs.lemmas.List.{append-nil}
use Rattle.corr_text.specs.First.{◌>>=◌}
use Rattle.corr_text.specs.declared.fault.Code.{Code}
use Rattle.corr_text.specs.declared.fault.Fault.{Fault}
use Rattle.fin_fields.specs.declared.field.Field.{Field}
use Rattle.fin_layout.specs.Contents.{all_from}
use Rattle.fin_layout.specs.Segments.{joined}
use Rattle.fin_layout.specs.inner.Segments.{places_of}
use Rattle.fin_layout.proofs.InTurn.{with_front, with_none}

-- each of these fields is read as the value beside it
abbrev pub ReadsAll : {A : Type 0} → (Field → Result A Code) → List Field → List A → Type 0
ReadsAll read [] [] = Unit {0}
ReadsAll read [] (x ∷ xs) = ⊥
ReadsAll read (f ∷ fs) [] = ⊥
ReadsAll read (f ∷ fs) (x ∷ xs) = (read f ≡ Ok x) × ReadsAll read fs xs

module _ {A : Type 0} (whole : List Field) (k : ℕ) (read : Field → Result A Code) where
  all-past : (j i : ℕ) (seg fs : List Field) (found : List ℕ) → (j == k) ≡ false → (n : ℕ) × (all_from whole k read i (replicate (length seg) j ++ found) (seg ++ fs) ≡ all_from whole k read n found fs)
  unfolding all_from
  all-past j i [] fs found h = (i, refl)
  all-past j i (f ∷ seg) fs found h =
      let later = all-past j (i + 1) seg fs found h in
      (later.0, rw h later.1)

  all-none : (j i : ℕ) (segs : List (List Field)) → k < j → all_from whole k read i (places_of j segs) (joined segs) ≡ Ok []
  unfolding all_from
  all-none j i [] lt = refl
  all-none j i (s ∷ ss) lt =
      let apart : (j == k) ≡ false = grind (arith, nat_tests) in
      let past = all-past j i s (joined ss) (places_of (j + 1) ss) apart in
      past.1 ∙ all-none (j + 1) past.0 ss (omega arith)

  all-group : (i : ℕ) (seg fs : List Field) (found : List ℕ) (xs : List A) → ReadsAll read seg xs → (n : ℕ) × (all_from whole k read i (replicate (length seg) k ++ found) (seg ++ fs) ≡ with_front xs (all_from whole k read n found fs))
  unfolding all_from
  all-group i [] fs found [] h = (i, with_none (all_from whole k read i found fs))
  all-group i [] fs found (x ∷ xs) h = absurd h
  all-group i (f ∷ seg) fs found [] h = absurd h
  all-group i (f ∷ seg) fs found (x ∷ xs) h =
      let later = all-group (i + 1) seg fs found xs h.1 in
      let here : (k == k) ≡ true = grind (arith, nat_tests) in
      (later.0, rw (here, h.0, later.1) (regroup-front x xs (all_from whole k read later.0 found fs)))
    where
      regroup-front : (x : A) (xs : List A) (r : Result (List A) Fault) → (with_front xs r >>= λ ys. Ok (x ∷ ys)) ≡ with_front (x ∷ xs) r
      regroup-front x xs (Ok ys) = refl
      regroup-front x xs (Err e) = refl

-- of fields that are written place by place, those of a repeated place are read in their order
pub grouped-all : {A : Type 0} (whole : List Field) (read : Field → Result A Code) (segs : List (List Field)) (j n i k : ℕ) (seg : List Field) (xs : List A) → k ≡ j + n → slice_get segs n ≡ Some seg → ReadsAll read seg xs
    → all_from whole k read i (places_of j segs) (joined segs) ≡ Ok xs
grouped-all whole read [] j n i k seg xs at e h = absurd (cc e)
grouped-all whole read (s ∷ ss) j zero i k seg xs at e h =
    let same : s ≡ seg = cc e in
    let place : j ≡ k = omega (arith, at) in
    let here = all-group whole k read i s (joined ss) (places_of (k + 1) ss) xs (rw same h) in
    rw place (here.1 ∙ rw (all-none whole k read (k + 1) here.0 ss (omega arith)) (ap Ok (append-nil xs)))
grouped-all whole read (s ∷ ss) j (suc n) i k seg xs at e h =
    let apart : (j == k) ≡ false = grind (arith, nat_tests) in
    let past = all-past whole k read j i s (joined ss) (places_of (j + 1) ss) apart in
    past.1 ∙ grouped-all whole read ss (j + 1) n past.0 k seg xs (omega (arith, at)) e h
