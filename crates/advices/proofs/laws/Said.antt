-- What is said at the places of a message: of fields that are grouped by place, and of one message's field as of another's.
use Rattle.std.proofs.Common.{◌≡◌, ℕ, ◌+◌, ◌==◌, Bool, true, false, cond, List, [], ◌∷◌, ◌++◌, length, slice_get, option_map, Option, Some, None, Result, Ok, Err, refl, sym, ap, ◌∙◌, arith, subst}
use Rattle.std.specs.Prelude.{is_some}
use Rattle.std.specs.List.{AllByRecursion, flat_map}
use Rattle.corr_text.specs.First.{◌>>=◌}
use Rattle.corr_text.specs.declared.fault.Code.{Code}
use Rattle.fin_fields.specs.declared.field.Field.{Field}
use Rattle.fin_layout.specs.declared.place.Place.{Place}
use Rattle.fin_layout.specs.Contents.{all_from, in_option, in_place, located, may_read}
use Rattle.fin_layout.specs.Order.{field_in}
use Rattle.fin_layout.specs.Segments.{joined}
use Rattle.fin_layout.specs.inner.Segments.{places_of}
use Rattle.fin_layout.proofs.laws.FoundField.{grouped-field, grouped-none}
use Rattle.fin_layout.proofs.laws.ReadGroups.{ReadsAll, grouped-all}
use Rattle.fin_contents.specs.Writing.{some_field}
use Rattle.fin_contents.proofs.laws.Said.{HoldsInPlaces}
use Rattle.fin_contents.proofs.laws.Steps.{read-then, told-is}
use Rattle.advices.specs.Fields.{copied_all, kept}
use Rattle.advices.proofs.laws.Finding.{Agrees, field_of}
use Rattle.advices.proofs.laws.Origin.{found-read, located-read}

-- ---- the field at a place

-- the field at a place, without its number
abbrev pub at_place : List Field → List ℕ → ℕ → Option Field
at_place fs found k = option_map field_of (field_in fs found k)

-- the first of some fields
abbrev pub first : List Field → Option Field
first [] = None
first (f ∷ fs) = Some f

-- of fields grouped by place it is the first of its group
pub at-group : (segs : List (List Field)) (n : ℕ) (s : List Field) → slice_get segs n ≡ Some s → at_place (joined segs) (places_of 0 segs) n ≡ first s
at-group segs n [] e =
    let same : 0 + n ≡ n = omega arith in
    ap (option_map field_of) (subst (λ (m : ℕ). field_in (joined segs) (places_of 0 segs) m ≡ None) same (grouped-none segs 0 n e))
at-group segs n (f ∷ s) e =
    let same : 0 + n ≡ n = omega arith in
    let found = grouped-field segs 0 n f s e in
    ap (option_map field_of) (subst (λ (m : ℕ). field_in (joined segs) (places_of 0 segs) m ≡ Some (found.0, f)) same found.1)

pub first-some : (o : Option Field) → first (some_field (λ f. f) o) ≡ o
first-some None = refl
first-some (Some f) = refl

-- ---- what it says

-- what a reading gives, nothing where it fails
abbrev pub ok_of : {A : Type 0} → Result A Code → Option A
ok_of (Ok x) = Some x
ok_of (Err c) = None

-- what a field says, where there is one
abbrev pub said_in : {A : Type 0} → (Field → Result A Code) → Option Field → Option A
said_in read None = None
said_in read (Some f) = ok_of (read f)

may-said : {A : Type 0} (fs : List Field) (read : Field → Result A Code) (o : Option (ℕ × Field)) (x : Option A) → may_read fs read o ≡ Ok x
    → x ≡ said_in read (option_map field_of o)
may-said {A} fs read None x e = sym (told-is None x e)
may-said {A} fs read (Some (n, f)) x e = go (read f) e
  where
    go : (r : Result A Code) → (located fs n r >>= λ y. Ok (Some y)) ≡ Ok x → x ≡ ok_of r
    go (Ok y) e = sym (told-is (Some y) x e)
    go (Err c) e = absurd (cc e)

pub option-said : {A : Type 0} (fs : List Field) (found : List ℕ) (k : ℕ) (read : Field → Result A Code) (x : Option A)
    → in_option fs found k read ≡ Ok x → x ≡ said_in read (at_place fs found k)
option-said fs found k read x e = may-said fs read (field_in fs found k) x e

may-there : {A : Type 0} (fs : List Field) (read : Field → Result A Code) (o : Option (ℕ × Field)) (x : Option A) → may_read fs read o ≡ Ok x
    → is_some x ≡ is_some (option_map field_of o)
may-there {A} fs read None x e = ap (λ (y : Option A). is_some y) (sym (told-is None x e))
may-there {A} fs read (Some (n, f)) x e = go (read f) e
  where
    go : (r : Result A Code) → (located fs n r >>= λ y. Ok (Some y)) ≡ Ok x → is_some x ≡ true
    go (Ok y) e = ap (λ (z : Option A). is_some z) (sym (told-is (Some y) x e))
    go (Err c) e = absurd (cc e)

-- something is said just where there is a field
pub option-there : {A : Type 0} (fs : List Field) (found : List ℕ) (k : ℕ) (read : Field → Result A Code) (x : Option A)
    → in_option fs found k read ≡ Ok x → is_some x ≡ is_some (at_place fs found k)
option-there fs found k read x e = may-there fs read (field_in fs found k) x e

-- two messages say the same where they have the same field
pub same-option : {A : Type 0} (fs gs : List Field) (found held : List ℕ) (k j : ℕ) (read : Field → Result A Code) (x y : Option A)
    → in_option fs found k read ≡ Ok x → in_option gs held j read ≡ Ok y
    → at_place gs held j ≡ at_place fs found k → y ≡ x
same-option fs gs found held k j read x y e h same = option-said gs held j read y h ∙ ap (said_in read) same ∙ sym (option-said fs found k read x e)

pub same-place : {A : Type 0} (order other : List Place) (fs gs : List Field) (found held : List ℕ) (k j : ℕ) (read : Field → Result A Code) (x y : A)
    → in_place order fs found k read ≡ Ok x → in_place other gs held j read ≡ Ok y
    → at_place gs held j ≡ at_place fs found k → y ≡ x
same-place {A} order other fs gs found held k j read x y e h same =
    let f = found-read order fs k read (field_in fs found k) x e in
    let g = found-read other gs j read (field_in gs held j) y h in
    let both : Some g.0 ≡ Some f.0 = sym g.1 ∙ same ∙ f.1 in
    let one : g.0 ≡ f.0 = cc both in
    let reads : ok_of (read f.0) ≡ Some x = ap (λ (r : Result A Code). ok_of r) f.2 in
    let others : ok_of (read f.0) ≡ Some y = ap (λ (h : Field). ok_of (read h)) (sym one) ∙ ap (λ (r : Result A Code). ok_of r) g.2 in
    cc (sym others ∙ reads)

-- ---- several fields at a place

-- what fields say, one after the other
abbrev pub some_first : {A : Type 0} → Option A → List A → List A
some_first None xs = xs
some_first (Some x) xs = x ∷ xs

abbrev pub all_said : {A : Type 0} → (Field → Result A Code) → List Field → List A
all_said read [] = []
all_said read (f ∷ fs) = some_first (ok_of (read f)) (all_said read fs)

-- a field says something
abbrev pub SaysSome : {A : Type 0} → (Field → Result A Code) → Field → Type 0
SaysSome {A} read f = (x : A) × (read f ≡ Ok x)

reads-all : {A : Type 0} (read : Field → Result A Code) (fs : List Field) → AllByRecursion (SaysSome read) fs → ReadsAll read fs (all_said read fs)
reads-all {A} read [] h = tt
reads-all {A} read (f ∷ fs) h = go (read f) refl h.0 (reads-all read fs h.1)
  where
    go : (r : Result A Code) → read f ≡ r → ((x : A) × (r ≡ Ok x)) → ReadsAll read fs (all_said read fs)
        → ReadsAll read (f ∷ fs) (some_first (ok_of r) (all_said read fs))
    go (Ok y) e s later = (e, later)
    go (Err c) e s later = absurd (cc s.1)

pub group-said : {A : Type 0} (read : Field → Result A Code) (segs : List (List Field)) (n : ℕ) (s : List Field) (xs : List A)
    → slice_get segs n ≡ Some s → AllByRecursion (SaysSome read) s
    → all_from (joined segs) n read 0 (places_of 0 segs) (joined segs) ≡ Ok xs → xs ≡ all_said read s
group-said read segs n s xs at h e =
    told-is xs (all_said read s) (sym e ∙ grouped-all (joined segs) read segs 0 n 0 n s (all_said read s) (omega arith) at (reads-all read s h))

-- the fields of one list and then those of another
pub both-said : {A : Type 0} (read : Field → Result A Code) (fs gs : List Field) → all_said read (fs ++ gs) ≡ all_said read fs ++ all_said read gs
both-said read [] gs = refl
both-said {A} read (f ∷ fs) gs = go (ok_of (read f)) (both-said read fs gs)
  where
    go : (o : Option A) → all_said read (fs ++ gs) ≡ all_said read fs ++ all_said read gs
        → some_first o (all_said read (fs ++ gs)) ≡ some_first o (all_said read fs) ++ all_said read gs
    go None later = later
    go (Some x) later = ap (λ (xs : List A). x ∷ xs) later

said-first : {A : Type 0} (read : Field → Result A Code) (f : Field) (fs : List Field) (x : A) (xs : List A) → read f ≡ Ok x → xs ≡ all_said read fs
    → x ∷ xs ≡ some_first (ok_of (read f)) (all_said read fs)
said-first {A} read f fs x xs reads later = rw reads (ap (λ (ys : List A). x ∷ ys) later)

-- in a message whose fields pass a test just where they stand at the place
pub chosen-said : {A : Type 0} (whole : List Field) (k : ℕ) (read : Field → Result A Code) (chosen : Field → Bool) (i : ℕ) (found : List ℕ)
    (fs : List Field) (xs : List A) → HoldsInPlaces (Agrees chosen k) found fs → length found ≡ length fs
    → all_from whole k read i found fs ≡ Ok xs → xs ≡ all_said read (copied_all chosen fs)
unfolding all_from
chosen-said {A} whole k read chosen i [] [] xs h long e = sym (told-is [] xs e)
chosen-said {A} whole k read chosen i [] (f ∷ fs) xs h long e = absurd (omega (arith, long))
chosen-said {A} whole k read chosen i (q ∷ found) [] xs h long e = absurd (omega (arith, long))
chosen-said {A} whole k read chosen i (q ∷ found) (f ∷ fs) xs h long e =
    rw h.0 (go (q == k) (λ ys later. chosen-said whole k read chosen (i + 1) found fs ys h.1 (omega (arith, long)) later) e)
  where
    go : (b : Bool) → ((ys : List A) → all_from whole k read (i + 1) found fs ≡ Ok ys → ys ≡ all_said read (copied_all chosen fs))
        → cond b (located whole i (read f) >>= λ x. all_from whole k read (i + 1) found fs >>= λ ys. Ok (x ∷ ys)) (all_from whole k read (i + 1) found fs)
        ≡ Ok xs
        → xs ≡ all_said read (cond b (f ∷ []) [] ++ flat_map (kept chosen) fs)
    go true later e =
        let one = read-then (located whole i (read f)) _ xs e in
        let two = read-then (all_from whole k read (i + 1) found fs) _ xs one.2 in
        let same : one.0 ∷ two.0 ≡ xs = told-is (one.0 ∷ two.0) xs two.2 in
        let reads : read f ≡ Ok one.0 = located-read whole i (read f) one.0 one.1 in
        sym same ∙ said-first read f (copied_all chosen fs) one.0 two.0 reads (later two.0 two.1)
    go false later e = later xs e
