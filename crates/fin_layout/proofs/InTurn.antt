-- Reading the fields of one place in turn.
use Rattle.std.proofs.Common.{◌≡◌, ℕ, ◌+◌, ◌<◌, ◌≤◌, ◌==◌, true, false, List, [], ◌∷◌, ◌++◌, length, get_or, drop, Result, Ok, Err, refl, sym, ap, ◌∙◌, append_assoc, arith}
use Rattle.std.proofs.lemmas.List.{drop_more, drop_all, append-nil}
use Rattle.corr_text.specs.First.{◌>>=◌}
use Rattle.corr_text.specs.declared.fault.Code.{Code}
use Rattle.corr_text.specs.declared.fault.Fault.{Fault}
use Rattle.fin_fields.specs.declared.field.Field.{Field}
use Rattle.fin_layout.specs.declared.fault.MtFault.{MtFault}
use Rattle.fin_layout.specs.declared.fault.MtFault.TheVariants as faults
use Rattle.fin_layout.specs.declared.fault.Refusal.{Refusal}
use Rattle.fin_layout.specs.declared.fault.Refusal.TheVariants as refusals
use Rattle.fin_layout.specs.Naming.{fault_at}
use Rattle.fin_layout.specs.Contents.{all_from, located}
use Rattle.fin_layout.specs.Reading.{Reads}
use Rattle.fin_layout.specs.inner.Reading.{placed, Fails}

-- what was read before, and what is still read
abbrev pub with_front : {A : Type 0} → List A → Result (List A) Fault → Result (List A) Fault
with_front front read = read >>= λ xs. Ok (front ++ xs)

regroup : {A : Type 0} (front : List A) (x : A) (read : Result (List A) Fault) → with_front front (read >>= λ xs. Ok (x ∷ xs)) ≡ with_front (front ++ x ∷ []) read
regroup front x (Ok xs) = ap Ok (sym (append_assoc front (x ∷ []) xs))
regroup front x (Err f) = refl

some-next : {X : Type 0} (xs : List X) (i : ℕ) → i < length xs → (x : X) × (drop i xs ≡ x ∷ drop (i + 1) xs)
some-next [] i lt = absurd (omega arith)
some-next (x ∷ xs) i lt = (get_or (x ∷ xs) i x, drop_more (x ∷ xs) i x lt)

pub with_none : {A : Type 0} (read : Result (List A) Fault) → read ≡ with_front [] read
with_none (Ok xs) = refl
with_none (Err f) = refl

pub record ReadSoFar {A : Type 0} (fs : List Field) (k : ℕ) (read : Field → Result A Code) (found : List ℕ) (i : ℕ) (front : List A) : Type 0 where
  pub all : all_from fs k read 0 found fs ≡ with_front front (all_from fs k read i (drop i found) (drop i fs))

pub all-start : {A : Type 0} (fs : List Field) (k : ℕ) (read : Field → Result A Code) (found : List ℕ) (front : List A) → front ≡ [] → ReadSoFar fs k read found 0 front
all-start fs k read found front none = record { all = rw none (with_none (all_from fs k read 0 found fs)) }

module _ {A : Type 0} {fs : List Field} {k : ℕ} {read : Field → Result A Code} {found : List ℕ} {i : ℕ} {front : List A} (s : ReadSoFar fs k read found i front) where
  module _ (f : Field) (at : f ≡ get_or fs i f) (within : i < length found) (few : length found ≤ length fs) where
    pub all-more : (d : ℕ) (x : A) → (get_or found i d == k) ≡ true → located fs i (read f) ≡ Ok x → ReadSoFar fs k read found (i + 1) (front ++ x ∷ [])
    unfolding all_from
    all-more d x here e =
        let lt : i < length fs = omega arith in
        record { all = s.all ∙ rw (drop_more found i d within, drop_more fs i f lt, ← at, here, e) (regroup front x _) }

    pub all-stop : (d : ℕ) (e : MtFault) → (get_or found i d == k) ≡ true → Fails e (located fs i (read f)) → Fails e (all_from fs k read 0 found fs)
    unfolding all_from
    all-stop d faults.Memory here h = tt
    all-stop d (faults.Bad fault) here h =
        let lt : i < length fs = omega arith in
        s.all ∙ rw (drop_more found i d within, drop_more fs i f lt, ← at, here, h) refl

  pub all-other : i < length found → length found ≤ length fs → (d : ℕ) → (get_or found i d == k) ≡ false → ReadSoFar fs k read found (i + 1) front
  unfolding all_from
  all-other within few d other =
      let lt : i < length fs = omega arith in
      let next = some-next fs i lt in
      record { all = s.all ∙ rw (drop_more found i d within, next.1, other) refl }

  pub all-end : length found ≤ i → all_from fs k read 0 found fs ≡ Ok front
  unfolding all_from
  all-end le = s.all ∙ rw (drop_all i found le) (ap Ok (append-nil front))

-- a content that was read, at its field
pub placed-ok : {A : Type 0} (fs : List Field) (i : ℕ) (r : Result A Refusal) (content : Result A Code) (at : Result A MtFault) (x : A) → Reads r content → at ≡ placed fs i r → at ≡ Ok x → located fs i content ≡ Ok x
placed-ok fs i (Ok y) content at x h p e = rw h (ap Ok (cc (sym p ∙ e)))
placed-ok fs i (Err y) content at x h p e = absurd (cc (sym p ∙ e))

pub placed-err : {A : Type 0} (fs : List Field) (i : ℕ) (r : Result A Refusal) (content : Result A Code) (at : Result A MtFault) (e : MtFault) → Reads r content → at ≡ placed fs i r → at ≡ Err e → Fails e (located fs i content)
placed-err fs i (Ok y) content at e h p q = absurd (cc (sym p ∙ q))
placed-err fs i (Err refusals.Memory) content at e h p q = let same : faults.Memory ≡ e = cc (sym p ∙ q) in rw (← same) tt
placed-err fs i (Err (refusals.Bad code)) content at e h p q = let same : faults.Bad (fault_at fs i code) ≡ e = cc (sym p ∙ q) in rw (← same) (rw h refl)
