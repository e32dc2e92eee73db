-- A message that was read and is written place by place is read again.
use Rattle.std.proofs.Common.{◌≡◌, ℕ, ◌+◌, ◌⊎◌, List, [], ◌∷◌, map, slice_get, Option, Some, None, Result, Ok, refl, arith, inl, inr}
use Rattle.std.specs.Prelude.{IfSome, unwrap_or}
use Rattle.std.specs.List.{AllByRecursion}
use Rattle.corr_text.specs.declared.fault.Code.{Code}
use Rattle.fin_fields.specs.declared.field.Field.{Field}
use Rattle.fin_layout.specs.declared.place.Place.{Place}
use Rattle.fin_layout.specs.Contents.{all_from, in_option, in_place}
use Rattle.fin_layout.specs.Order.{field_in}
use Rattle.fin_layout.specs.Segments.{joined}
use Rattle.fin_layout.specs.inner.Segments.{places_of}
use Rattle.fin_layout.proofs.laws.FoundField.{grouped-field, grouped-none}
use Rattle.fin_layout.proofs.laws.ReadGroups.{ReadsAll, grouped-all}
use Rattle.fin_contents.specs.Writing.{lines_field, lines_fields, some_field}
use Rattle.fin_contents.proofs.laws.Said.{HoldsInPlaces, Said, said-all, said-one, said-option}

-- ---- what holds of each

-- what holds of all values holds of one that may be missing
pub some-all : {A : Type 0} (P : A → Type 0) (o : Option A) → ((x : A) → P x) → IfSome o P
some-all P None h = tt
some-all P (Some x) h = h x

-- what follows from a property of a value follows where the value may be missing
pub some-weaker : {A : Type 0} (P R : A → Type 0) (o : Option A) → IfSome o P → ((x : A) → P x → R x) → IfSome o R
some-weaker P R None p h = tt
some-weaker P R (Some x) p h = h x p

-- what holds of all values holds of each in a list
pub each-all : {A : Type 0} (P : A → Type 0) (xs : List A) → ((x : A) → P x) → AllByRecursion P xs
each-all P [] h = tt
each-all P (x ∷ xs) h = (h x, each-all P xs h)

-- what follows from a property of a value follows of each in a list
pub each-weaker : {A : Type 0} (P R : A → Type 0) (xs : List A) → AllByRecursion P xs → ((x : A) → P x → R x) → AllByRecursion R xs
each-weaker P R [] p h = tt
each-weaker P R (x ∷ xs) p h = (h x p.0, each-weaker P R xs p.1 h)

-- ---- the field of each place

in-front : (segs : List (List Field)) (k : ℕ) (o : Option (ℕ × Field)) → field_in (joined segs) (places_of 0 segs) (0 + k) ≡ o → field_in (joined segs) (places_of 0 segs) k ≡ o
in-front segs k o e = let same : 0 + k ≡ k = omega arith in rw same at e

-- where the fields are written place by place, the one field of a place is read as what it says
pub one-back : {A : Type 0} (order : List Place) (segs : List (List Field)) (k : ℕ) (read : Field → Result A Code) (f : Field) (x : A) → slice_get segs k ≡ Some (f ∷ []) → read f ≡ Ok x
    → in_place order (joined segs) (places_of 0 segs) k read ≡ Ok x
one-back order segs k read f x at e =
    let there = grouped-field segs 0 k f [] at in
    rw (in-front segs k (Some (there.0, f)) there.1, e) refl

-- a field that may be missing is read as it was written
pub option-back : {A : Type 0} (segs : List (List Field)) (k : ℕ) (read : Field → Result A Code) (write : A → Field) (o : Option A) → slice_get segs k ≡ Some (some_field write o) → IfSome o (λ x. read (write x) ≡ Ok x)
    → in_option (joined segs) (places_of 0 segs) k read ≡ Ok o
option-back segs k read write None at e = rw (in-front segs k None (grouped-none segs 0 k at)) refl
option-back segs k read write (Some x) at e =
    let there = grouped-field segs 0 k (write x) [] at in
    rw (in-front segs k (Some (there.0, write x)) there.1, e) refl

lines-back : (segs : List (List Field)) (k tag : ℕ) (letter : Option ℕ) (read : Field → Result (List (List ℕ)) Code) (lines : List (List ℕ)) → slice_get segs k ≡ Some (lines_fields tag letter lines)
    → (lines ≡ []) ⊎ (read (lines_field tag letter lines) ≡ Ok lines)
    → (o : Option (List (List ℕ))) × (in_option (joined segs) (places_of 0 segs) k read ≡ Ok o) × (unwrap_or o [] ≡ lines)
lines-back segs k tag letter read [] at e = (None, rw (in-front segs k None (grouped-none segs 0 k at)) refl, refl)
lines-back segs k tag letter read (line ∷ lines) at (inl none) = absurd (cc none)
lines-back segs k tag letter read (line ∷ lines) at (inr e) =
    let there = grouped-field segs 0 k (lines_field tag letter (line ∷ lines)) [] at in
    (Some (line ∷ lines), rw (in-front segs k (Some (there.0, lines_field tag letter (line ∷ lines))) there.1, e) refl, refl)

-- fields that are written of values are read as those values
pub reads-all : {A : Type 0} (read : Field → Result A Code) (write : A → Field) (xs : List A) → AllByRecursion (λ x. read (write x) ≡ Ok x) xs → ReadsAll read (map write xs) xs
reads-all read write [] e = tt
reads-all read write (x ∷ xs) e = (e.0, reads-all read write xs e.1)

-- ---- from the fields that were read to those that are written

-- a value that some field said is read again from the field that it is written as
abbrev pub Again : {A : Type 0} → (Field → Type 0) → (Field → Result A Code) → (A → Field) → A → Type 0
Again Q read write x = (f : Field) → Q f → read f ≡ Ok x → read (write x) ≡ Ok x

module _ (Q : ℕ → Field → Type 0) (fs : List Field) (found : List ℕ) (h : HoldsInPlaces Q found fs) (segs : List (List Field)) (k : ℕ) where
  -- what a field said is read again in the text that is written of it
  pub one-moved : {A : Type 0} (order : List Place) (read : Field → Result A Code) (write : A → Field) (x : A) → Again (Q k) read write x → slice_get segs k ≡ Some (write x ∷ []) → in_place order fs found k read ≡ Ok x
      → in_place order (joined segs) (places_of 0 segs) k read ≡ Ok x
  one-moved order read write x again at e =
      let s = said-one Q fs k read order found x h e in
      one-back order segs k read (write x) x at (again s.field s.holds s.says)

  -- the same of a field that may be missing
  pub option-moved : {A : Type 0} (read : Field → Result A Code) (write : A → Field) (o : Option A) → IfSome o (Again (Q k) read write) → slice_get segs k ≡ Some (some_field write o) → in_option fs found k read ≡ Ok o
      → in_option (joined segs) (places_of 0 segs) k read ≡ Ok o
  option-moved read write None again at e = option-back segs k read write None at tt
  option-moved read write (Some x) again at e =
      let s = said-option Q fs k read found (Some x) h e in
      option-back segs k read write (Some x) at (again s.field s.holds s.says)

  all-again : {A : Type 0} (read : Field → Result A Code) (write : A → Field) (xs : List A) → AllByRecursion (Said (Q k) read) xs → AllByRecursion (Again (Q k) read write) xs → AllByRecursion (λ x. read (write x) ≡ Ok x) xs
  all-again read write [] s again = tt
  all-again read write (x ∷ xs) s again = (again.0 s.0.field s.0.holds s.0.says, all-again read write xs s.1 again.1)

  -- the same of a field that may be repeated
  pub all-moved : {A : Type 0} (read : Field → Result A Code) (write : A → Field) (xs : List A) → AllByRecursion (Again (Q k) read write) xs → slice_get segs k ≡ Some (map write xs) → all_from fs k read 0 found fs ≡ Ok xs
      → all_from (joined segs) k read 0 (places_of 0 segs) (joined segs) ≡ Ok xs
  all-moved read write xs again at e =
      grouped-all (joined segs) read segs 0 k 0 k (map write xs) xs (omega arith) at (reads-all read write xs (all-again read write xs (said-all Q fs k read 0 found fs xs h e) again))

  -- lines, where no lines are no field
  pub lines-moved : (tag : ℕ) (letter : Option ℕ) (read : Field → Result (List (List ℕ)) Code) (o : Option (List (List ℕ))) → ((lines : List (List ℕ)) → Again (Q k) read (lines_field tag letter) lines)
      → slice_get segs k ≡ Some (lines_fields tag letter (unwrap_or o [])) → in_option fs found k read ≡ Ok o
      → (p : Option (List (List ℕ))) × (in_option (joined segs) (places_of 0 segs) k read ≡ Ok p) × (unwrap_or p [] ≡ unwrap_or o [])
  lines-moved tag letter read None again at e = lines-back segs k tag letter read [] at (inl refl)
  lines-moved tag letter read (Some lines) again at e =
      let s = said-option Q fs k read found (Some lines) h e in
      lines-back segs k tag letter read lines at (inr (again lines s.field s.holds s.says))
