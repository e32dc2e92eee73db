-- Fields made of fields.
use Rattle.std.proofs.Common.{◌≡◌, ℕ, zero, suc, ◌^◌, ◌<◌, List, [], ◌∷◌, ◌++◌, length, Option, Some, None, refl, sym, ap, subst, ◌∙◌, append_assoc}
use Rattle.std.specs.Prelude.{IfSome, flat_map, option_and_then}
use Rattle.std.specs.List.{AllByRecursion}
use Rattle.std.specs.Int.{w32, to_be_bytes}
use Rattle.std.proofs.lemmas.Option.{some_pair_parts, same_Some, option_and_then_some}
use Rattle.jrn_codec.specs.Spelling.{optional_bytes, short_bytes, long_bytes, listed_bytes}
use Rattle.jrn_codec.specs.inner.Reading.{cut, spelled_at, mark_at, optional_at, short_at, long_at, items_at, listed_at}
use Rattle.jrn_codec.proofs.Fields.{IsBytes, IsBytes-after, IsField, step, resume, cut_field, byte_field, field32}

-- n bytes that spell a value
pub record IsSpelled {A : Type 0} (n : ℕ) (spell : A → List ℕ) (value : List ℕ → Option A) (Fits : A → Type 0) : Type 0 where
  pub len : (x : A) → Fits x → length (spell x) ≡ n
  pub again : (x : A) → Fits x → value (spell x) ≡ Some x
  pub back : (bytes : List ℕ) (x : A) → length bytes ≡ n → value bytes ≡ Some x → (spell x ≡ bytes) × Fits x

pub spelled_field : {A : Type 0} (n : ℕ) (spell : A → List ℕ) (value : List ℕ → Option A) (Fits : A → Type 0) → IsSpelled n spell value Fits → IsField spell (spelled_at n value) Fits
unfolding spelled_at
spelled_field {A} n spell value Fits h = record {
  takes = λ bytes x rest b e.
      let a = step (cut_field n) (λ part. option_and_then (λ (y : A). Some (y, part.1)) (value part.0)) bytes (x, rest) b e in
      option_and_then_some (λ (y : A). Some (y, a.rest)) (value a.value) (x, rest) a.on (λ y is on.
      let made = some_pair_parts y x a.rest rest on in
      let k = h.back a.value y a.fits is in
      subst (λ (p : A × List ℕ). (bytes ≡ spell p.0 ++ p.1) × Fits p.0) (same_Some (y, a.rest) (x, rest) on) (rw k.0 a.parts, k.1));
  again = λ x rest fits.
      resume (cut_field n) (λ part. option_and_then (λ (y : A). Some (y, part.1)) (value part.0)) (spell x) rest (Some (x, rest)) (h.len x fits)
      (ap (option_and_then (λ (y : A). Some (y, rest))) (h.again x fits));
}

-- a byte that stands for a value
pub record IsMark {A : Type 0} (mark : A → ℕ) (value : ℕ → Option A) : Type 0 where
  pub again : (x : A) → value (mark x) ≡ Some x
  pub back : (b : ℕ) (x : A) → value b ≡ Some x → mark x ≡ b

pub mark_field : {A : Type 0} (mark : A → ℕ) (value : ℕ → Option A) → IsMark mark value → IsField (λ (x : A). mark x ∷ []) (mark_at value) (λ (x : A). Unit {0})
unfolding mark_at
mark_field {A} mark value h = record {
  takes = λ bytes x rest b e.
      let a = step byte_field (λ m. option_and_then (λ (y : A). Some (y, m.1)) (value m.0)) bytes (x, rest) b e in
      option_and_then_some (λ (y : A). Some (y, a.rest)) (value a.value) (x, rest) a.on (λ y is on.
      subst (λ (p : A × List ℕ). (bytes ≡ mark p.0 ∷ p.1) × Unit {0}) (same_Some (y, a.rest) (x, rest) on) (rw (h.back a.value y is) a.parts, tt));
  again = λ x rest fits. rw (h.again x) refl;
}

optional_takes : {A : Type 0} {spell : A → List ℕ} {read : List ℕ → Option (A × List ℕ)} {Fits : A → Type 0} → IsField spell read Fits → (bytes : List ℕ) (o : Option A) (rest : List ℕ)
    → IsBytes bytes → optional_at read bytes ≡ Some (o, rest) → (bytes ≡ optional_bytes spell o ++ rest) × IfSome o Fits
unfolding optional_at
optional_takes field [] o rest b e = absurd cc
optional_takes {A} {spell} {read} {Fits} field (zero ∷ bytes) o rest b e =
    subst (λ (p : Option A × List ℕ). (0 ∷ bytes ≡ optional_bytes spell p.0 ++ p.1) × IfSome p.0 Fits) (same_Some (None, bytes) (o, rest) e) (refl, tt)
optional_takes {A} {spell} {read} {Fits} field (suc zero ∷ bytes) o rest b e =
    let a = step field (λ x. Some (Some x.0, x.1)) bytes (o, rest) (IsBytes-after (1 ∷ bytes) (1 ∷ []) bytes refl b) e in
    subst (λ (p : Option A × List ℕ). (1 ∷ bytes ≡ optional_bytes spell p.0 ++ p.1) × IfSome p.0 Fits) (same_Some (Some a.value, a.rest) (o, rest) a.on) (ap (λ (t : List ℕ). 1 ∷ t) a.parts, a.fits)
optional_takes field (suc (suc c) ∷ bytes) o rest b e = absurd cc

optional_again : {A : Type 0} {spell : A → List ℕ} {read : List ℕ → Option (A × List ℕ)} {Fits : A → Type 0} → IsField spell read Fits → (o : Option A) (rest : List ℕ)
    → IfSome o Fits → optional_at read (optional_bytes spell o ++ rest) ≡ Some (o, rest)
unfolding optional_at
optional_again field None rest fits = refl
optional_again field (Some x) rest fits = resume field (λ x. Some (Some x.0, x.1)) x rest (Some (Some x, rest)) fits refl

pub optional_field : {A : Type 0} {spell : A → List ℕ} {read : List ℕ → Option (A × List ℕ)} {Fits : A → Type 0} → IsField spell read Fits → IsField (optional_bytes spell) (optional_at read) (λ (o : Option A). IfSome o Fits)
optional_field field = record { takes = optional_takes field; again = optional_again field }

pub short_field : IsField short_bytes short_at (λ (text : List ℕ). Unit {0})
unfolding short_at
short_field = record {
  takes = λ bytes text rest b e.
      let n = step byte_field (λ n. cut n.0 n.1) bytes (text, rest) b e in
      let t = (cut_field n.value).takes n.rest text rest n.bytes_on n.on in
      (n.parts ∙ rw (t.1) (ap (λ (s : List ℕ). n.value ∷ s) t.0), tt);
  again = λ text rest fits. (cut_field (length text)).again text rest refl;
}

pub long_field : IsField long_bytes long_at (λ (text : List ℕ). length text < 2 ^ 32)
unfolding long_at long_bytes
long_field = record {
  takes = λ bytes text rest b e.
      let n = step field32 (λ n. cut n.0 n.1) bytes (text, rest) b e in
      let t = (cut_field n.value).takes n.rest text rest n.bytes_on n.on in
      let whole : bytes ≡ to_be_bytes w32 n.value ++ (text ++ rest) = n.parts ∙ ap (λ (s : List ℕ). to_be_bytes w32 n.value ++ s) t.0 in
      (rw t.1 (whole ∙ sym (append_assoc (to_be_bytes w32 n.value) text rest)), rw t.1 n.fits);
  again = λ text rest fits.
      ap long_at (append_assoc (to_be_bytes w32 (length text)) text rest)
      ∙ resume field32 (λ n. cut n.0 n.1) (length text) (text ++ rest) (Some (text, rest)) fits ((cut_field (length text)).again text rest refl);
}

-- ---- values one after another

pub items_take : {A : Type 0} {spell : A → List ℕ} {read : List ℕ → Option (A × List ℕ)} {Fits : A → Type 0} → IsField spell read Fits → (n : ℕ) (bytes : List ℕ) (xs : List A) (rest : List ℕ)
    → IsBytes bytes → items_at read n bytes ≡ Some (xs, rest) → (bytes ≡ flat_map spell xs ++ rest) × (length xs ≡ n) × AllByRecursion Fits xs
unfolding items_at
items_take {A} {spell} {read} {Fits} field zero bytes xs rest b e =
    subst (λ (p : List A × List ℕ). (bytes ≡ flat_map spell p.0 ++ p.1) × (length p.0 ≡ 0) × AllByRecursion Fits p.0) (same_Some ([], bytes) (xs, rest) e) (refl, refl, tt)
items_take {A} {spell} {read} {Fits} field (suc n) bytes xs rest b e =
    let a = step field (λ first. option_and_then (λ (others : List A × List ℕ). Some (first.0 ∷ others.0, others.1)) (items_at read n first.1)) bytes (xs, rest) b e in
    option_and_then_some (λ (others : List A × List ℕ). Some (a.value ∷ others.0, others.1)) (items_at read n a.rest) (xs, rest) a.on (λ others is on.
    let more = items_take field n a.rest others.0 others.1 a.bytes_on is in
    let whole : bytes ≡ flat_map spell (a.value ∷ others.0) ++ others.1 = a.parts ∙ ap (λ (s : List ℕ). spell a.value ++ s) more.0 ∙ sym (append_assoc (spell a.value) (flat_map spell others.0) others.1) in
    subst (λ (p : List A × List ℕ). (bytes ≡ flat_map spell p.0 ++ p.1) × (length p.0 ≡ suc n) × AllByRecursion Fits p.0) (same_Some (a.value ∷ others.0, others.1) (xs, rest) on)
    (whole, ap suc more.1, (a.fits, more.2)))

pub items_again : {A : Type 0} {spell : A → List ℕ} {read : List ℕ → Option (A × List ℕ)} {Fits : A → Type 0} → IsField spell read Fits → (xs : List A) (rest : List ℕ)
    → AllByRecursion Fits xs → items_at read (length xs) (flat_map spell xs ++ rest) ≡ Some (xs, rest)
unfolding items_at
items_again field [] rest fits = refl
items_again {A} {spell} {read} {Fits} field (x ∷ xs) rest fits =
    ap (items_at read (suc (length xs))) (append_assoc (spell x) (flat_map spell xs) rest)
    ∙ resume field (λ first. option_and_then (λ (others : List A × List ℕ). Some (first.0 ∷ others.0, others.1)) (items_at read (length xs) first.1)) x (flat_map spell xs ++ rest) (Some (x ∷ xs, rest)) fits.0
    (ap (option_and_then (λ (others : List A × List ℕ). Some (x ∷ others.0, others.1))) (items_again field xs rest fits.1))

pub listed_field : {A : Type 0} {spell : A → List ℕ} {read : List ℕ → Option (A × List ℕ)} {Fits : A → Type 0} → IsField spell read Fits → IsField (listed_bytes spell) (listed_at read) (λ (xs : List A). (length xs < 256) × AllByRecursion Fits xs)
unfolding listed_at
listed_field {A} {spell} {read} {Fits} field = record {
  takes = λ bytes xs rest b e.
      let n = step byte_field (λ n. items_at read n.0 n.1) bytes (xs, rest) b e in
      let t = items_take field n.value n.rest xs rest n.bytes_on n.on in
      (n.parts ∙ rw t.1 (ap (λ (s : List ℕ). n.value ∷ s) t.0), (rw t.1 n.fits, t.2));
  again = λ xs rest fits. items_again field xs rest fits.1;
}
