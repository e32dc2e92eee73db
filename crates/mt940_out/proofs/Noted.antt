-- Fields with notes between them: what they say, and that they may stand in a text.
use Rattle.std.proofs.Common.{◌≡◌, ℕ, suc, ◌+◌, ◌&&◌, ◌⊎◌, Bool, true, false, cond, if◌then◌else◌, List, [], ◌∷◌, ◌++◌, length, None, refl, sym, ap, ◌∙◌, subst, arith, inl, inr}
use Rattle.std.specs.List.{All, AllByRecursion}
use Rattle.std.proofs.lemmas.Bool.{cases_Bool}
use Rattle.std.proofs.lemmas.Bool.Decides.{nat_tests}
use Rattle.std.proofs.lemmas.List.Elements.{All-from_recursion, recursion_from_All}
use Rattle.fin_fields.specs.Writing.{IsField}
use Rattle.fin_fields.specs.declared.field.Field.{Field}
use Rattle.fin_layout.specs.Order.{free_after, place_from, places_from}
use Rattle.fin_contents.specs.Writing.{lines_field, lines_fields}
use Rattle.fin_contents.proofs.laws.Bytes.{and-both}
use Rattle.mt950.specs.Order.{order_950}
use Rattle.mt940_out.specs.inner.Faults.{first_bad_note}
use Rattle.mt940_out.specs.Order.{is_line, is_note, note_behind, notes_of, places_940, without_notes}
use Rattle.mt940_out.specs.Page.{is_note_text}
use Rattle.mt940_out.specs.Writing.{first_note, other_notes, with_notes}
use Rattle.mt940_out.specs.inner.Writing.{IsNote}
use Rattle.mt940_out.proofs.Front.{AllPlaced}
use Rattle.mt940_out.proofs.Steps.{Takes, bad-note, good-note, next-place, no-note, no-place, option-cases, places-placed, takes-no-note, without-field, without-note}

-- ---- how many 61 there are

abbrev pub lines_in : List Field → ℕ
lines_in [] = 0
lines_in (f ∷ fs) = if is_line f then suc (lines_in fs) else lines_in fs

module _ (f : Field) (fs : List Field) where
  pub counts-line : is_line f ≡ true → lines_in (f ∷ fs) ≡ suc (lines_in fs)
  counts-line e = rw e refl

  pub counts-other : is_line f ≡ false → lines_in (f ∷ fs) ≡ lines_in fs
  counts-other e = rw e refl

  pub notes-line : is_line f ≡ true → notes_of (f ∷ fs) ≡ note_behind fs ∷ notes_of fs
  notes-line e = rw e refl

  pub notes-other : is_line f ≡ false → notes_of (f ∷ fs) ≡ notes_of fs
  notes-other e = rw e refl

  module _ (notes : List (List (List ℕ))) where
    pub with-line : is_line f ≡ true → with_notes notes (f ∷ fs) ≡ f ∷ (lines_fields 86 None (first_note notes) ++ with_notes (other_notes notes) fs)
    with-line e = rw e refl

    pub with-other : is_line f ≡ false → with_notes notes (f ∷ fs) ≡ f ∷ with_notes notes fs
    with-other e = rw e refl

-- an 86 with these lines
abbrev pub note_field : List ℕ → List (List ℕ) → Field
note_field line more = lines_field 86 None (line ∷ more)

-- ---- fields without an 86

abbrev pub NoNotes : List Field → Type 0
NoNotes fs = AllByRecursion (λ f. is_note f ≡ false) fs

no-and : (b c : Bool) → c ≡ false → (b && c) ≡ false
no-and true c e = e
no-and false c e = refl

-- fields that all take a place have none
abbrev Free : List Field → Type 0
Free fs = (free : ℕ) → length (places_from order_950 free fs) ≡ length fs → NoNotes fs

module _ (f : Field) (fs : List Field) (later : Free fs) (free : ℕ) (len : length (places_from order_950 free (f ∷ fs)) ≡ suc (length fs)) where
  free-by : (place_from order_950 free f ≡ None) ⊎ ((k : ℕ) × Takes free f k) → NoNotes (f ∷ fs)
  free-by (inl none) = absurd (cc (sym (ap length (no-place free f fs none)) ∙ len))
  free-by (inr (k, takes)) =
      (takes-no-note free k f takes, later (free_after order_950 k) (omega (arith, ap length (next-place free f fs k takes), len)))

pub placed-free : (fs : List Field) → Free fs
placed-free [] = λ free len. tt
placed-free (f ∷ fs) = λ free len. free-by f fs (placed-free fs) free len (option-cases (place_from order_950 free f))

-- ---- without the notes they are as they were

without-here : (behind : Bool) (f : Field) (fs : List Field) → is_note f ≡ false → without_notes behind (f ∷ fs) ≡ f ∷ without_notes (is_line f) fs
without-here behind f fs unmet = let e = no-and behind (is_note f) unmet in rw e refl

abbrev Without : List Field → Type 0
Without fs = (notes : List (List (List ℕ))) (behind : Bool) → NoNotes fs → without_notes behind (with_notes notes fs) ≡ fs

module _ (f : Field) (fs : List Field) (later : Without fs) (notes : List (List (List ℕ))) (behind : Bool) (none : NoNotes (f ∷ fs)) where
  past-one : (note : List (List ℕ)) (others : List (List (List ℕ))) → without_notes true (lines_fields 86 None note ++ with_notes others fs) ≡ fs
  past-one [] others = later others true none.1
  past-one (line ∷ more) others = later others false none.1

  without-by : (is_line f ≡ true) ⊎ (is_line f ≡ false) → without_notes behind (with_notes notes (f ∷ fs)) ≡ f ∷ fs
  without-by (inl line) =
      ap (without_notes behind) (with-line f fs notes line)
      ∙ without-here behind f (lines_fields 86 None (first_note notes) ++ with_notes (other_notes notes) fs) none.0
      ∙ ap (λ (b : Bool). f ∷ without_notes b (lines_fields 86 None (first_note notes) ++ with_notes (other_notes notes) fs)) line
      ∙ ap (λ (gs : List Field). f ∷ gs) (past-one (first_note notes) (other_notes notes))
  without-by (inr other) =
      ap (without_notes behind) (with-other f fs notes other)
      ∙ without-here behind f (with_notes notes fs) none.0
      ∙ ap (λ (gs : List Field). f ∷ gs) (later notes (is_line f) none.1)

pub without-with : (fs : List Field) → Without fs
without-with [] = λ notes behind none. refl
without-with (f ∷ fs) = λ notes behind none. without-by f fs (without-with fs) notes behind none (cases_Bool (is_line f))

-- ---- the notes are these

behind-none : (f : Field) (fs : List Field) → is_note f ≡ false → note_behind (f ∷ fs) ≡ []
behind-none f fs unmet = rw unmet refl

nothing-behind : (fs : List Field) (notes : List (List (List ℕ))) → NoNotes fs → note_behind (with_notes notes fs) ≡ []
nothing-behind [] notes none = refl
nothing-behind (f ∷ fs) notes none = by (cases_Bool (is_line f))
  where
    by : (is_line f ≡ true) ⊎ (is_line f ≡ false) → note_behind (with_notes notes (f ∷ fs)) ≡ []
    by (inl line) =
        ap note_behind (with-line f fs notes line) ∙ behind-none f (lines_fields 86 None (first_note notes) ++ with_notes (other_notes notes) fs) none.0
    by (inr other) = ap note_behind (with-other f fs notes other) ∙ behind-none f (with_notes notes fs) none.0

abbrev Again : List Field → Type 0
Again fs = (notes : List (List (List ℕ))) → NoNotes fs → length notes ≡ lines_in fs → notes_of (with_notes notes fs) ≡ notes

module _ (f : Field) (fs : List Field) (later : Again fs) (none : NoNotes (f ∷ fs)) where
  note-again : (note : List (List ℕ)) (others : List (List (List ℕ))) → length others ≡ lines_in fs
      → (note_behind (lines_fields 86 None note ++ with_notes others fs) ≡ note) × (notes_of (lines_fields 86 None note ++ with_notes others fs) ≡ others)
  note-again [] others len = (nothing-behind fs others none.1, later others none.1 len)
  note-again (line ∷ more) others len = (refl, later others none.1 len)

  line-again : (notes : List (List (List ℕ))) → is_line f ≡ true → length notes ≡ suc (lines_in fs) → notes_of (with_notes notes (f ∷ fs)) ≡ notes
  line-again [] line len = absurd (omega (arith, len))
  line-again (note ∷ others) line len =
      let again = note-again note others (omega (arith, len)) in
      let tail : List Field = lines_fields 86 None note ++ with_notes others fs in
      ap notes_of (with-line f fs (note ∷ others) line) ∙ notes-line f tail line
      ∙ ap (λ (n : List (List ℕ)). n ∷ notes_of tail) again.0 ∙ ap (λ (ns : List (List (List ℕ))). note ∷ ns) again.1

  again-by : (notes : List (List (List ℕ))) → length notes ≡ lines_in (f ∷ fs) → (is_line f ≡ true) ⊎ (is_line f ≡ false)
      → notes_of (with_notes notes (f ∷ fs)) ≡ notes
  again-by notes len (inl line) = line-again notes line (len ∙ counts-line f fs line)
  again-by notes len (inr other) =
      ap notes_of (with-other f fs notes other) ∙ notes-other f (with_notes notes fs) other ∙ later notes none.1 (len ∙ counts-other f fs other)

none-left : (notes : List (List (List ℕ))) → length notes ≡ 0 → [] ≡ notes
none-left [] len = refl
none-left (note ∷ notes) len = absurd (omega (arith, len))

pub notes-again : (fs : List Field) → Again fs
notes-again [] = λ notes none len. none-left notes len
notes-again (f ∷ fs) = λ notes none len. again-by f fs (notes-again fs) none notes len (cases_Bool (is_line f))

-- ---- each takes a place

abbrev Stays : List Field → Type 0
Stays fs = (notes : List (List (List ℕ))) (free : ℕ) (behind : Bool) → length (places_from order_950 free fs) ≡ length fs → AllPlaced free behind (with_notes notes fs)

note-placed : (free : ℕ) (note : List (List ℕ)) (fs : List Field) → ((behind : Bool) → AllPlaced free behind fs) → AllPlaced free true (lines_fields 86 None note ++ fs)
unfolding places_940
note-placed free [] fs later = later true
note-placed free (line ∷ more) fs later = ap suc (later false)

module _ (f : Field) (fs : List Field) (later : Stays fs) (notes : List (List (List ℕ))) (free : ℕ) (behind : Bool)
    (len : length (places_from order_950 free (f ∷ fs)) ≡ suc (length fs)) where
  module _ (k : ℕ) (takes : Takes free f k) where
    abbrev next : ℕ
    next = free_after order_950 k

    fewer : length (places_from order_950 next fs) ≡ length fs
    fewer = omega (arith, ap length (next-place free f fs k takes), len)

    -- after it the others do
    head-placed : (gs : List Field) → AllPlaced next (is_line f) gs → AllPlaced free behind (f ∷ gs)
    head-placed gs rest =
        let unmet = no-and behind (is_note f) (takes-no-note free k f takes) in
        ap length (places-placed free behind f gs unmet k takes) ∙ ap suc rest

    stays-by : (is_line f ≡ true) ⊎ (is_line f ≡ false) → AllPlaced free behind (with_notes notes (f ∷ fs))
    stays-by (inl line) =
        let tail : List Field = lines_fields 86 None (first_note notes) ++ with_notes (other_notes notes) fs in
        let placed : AllPlaced next true tail = note-placed next (first_note notes) (with_notes (other_notes notes) fs) (λ b. later (other_notes notes) next b fewer) in
        subst (AllPlaced free behind) (sym (with-line f fs notes line)) (head-placed tail (subst (λ (b : Bool). AllPlaced next b tail) (sym line) placed))
    stays-by (inr other) =
        subst (AllPlaced free behind) (sym (with-other f fs notes other)) (head-placed (with_notes notes fs) (later notes next (is_line f) fewer))

  stays-at : (place_from order_950 free f ≡ None) ⊎ ((k : ℕ) × Takes free f k) → AllPlaced free behind (with_notes notes (f ∷ fs))
  stays-at (inl none) = absurd (cc (sym (ap length (no-place free f fs none)) ∙ len))
  stays-at (inr (k, takes)) = stays-by k takes (cases_Bool (is_line f))

stays-end : (free : ℕ) (behind : Bool) → AllPlaced free behind []
unfolding places_940
stays-end free behind = refl

pub all-stay : (fs : List Field) → Stays fs
all-stay [] = λ notes free behind len. stays-end free behind
all-stay (f ∷ fs) = λ notes free behind len. stays-at f fs (all-stay fs) notes free behind len (option-cases (place_from order_950 free f))

-- ---- no 86 has another form

-- a note that is none, or has the form of an 86
abbrev pub HasForm : List (List ℕ) → Type 0
HasForm note = (note ≡ []) ⊎ (is_note_text note ≡ true)

first-form : (notes : List (List (List ℕ))) → AllByRecursion HasForm notes → HasForm (first_note notes)
first-form [] all = inl refl
first-form (note ∷ notes) all = all.0

others-form : (notes : List (List (List ℕ))) → AllByRecursion HasForm notes → AllByRecursion HasForm (other_notes notes)
others-form [] all = tt
others-form (note ∷ notes) all = all.1

abbrev Fine : List Field → Type 0
Fine fs = (notes : List (List (List ℕ))) (i : ℕ) (behind : Bool) → NoNotes fs → AllByRecursion HasForm notes → first_bad_note i behind (with_notes notes fs) ≡ None

no-bad-here : (i : ℕ) (behind : Bool) (f : Field) (fs : List Field) → is_note f ≡ false → first_bad_note i behind (f ∷ fs) ≡ first_bad_note (i + 1) (is_line f) fs
no-bad-here i behind f fs unmet = let e = no-and behind (is_note f) unmet in rw e refl

module _ (f : Field) (fs : List Field) (later : Fine fs) (none : NoNotes (f ∷ fs)) where
  one-fine : (note : List (List ℕ)) (others : List (List (List ℕ))) (i : ℕ) → HasForm note → AllByRecursion HasForm others
      → first_bad_note i true (lines_fields 86 None note ++ with_notes others fs) ≡ None
  one-fine [] others i form all = later others i true none.1 all
  one-fine (line ∷ more) others i (inl empty) all = absurd (cc empty)
  one-fine (line ∷ more) others i (inr form) all = rw form (later others (i + 1) false none.1 all)

  fine-by : (notes : List (List (List ℕ))) (i : ℕ) (behind : Bool) → AllByRecursion HasForm notes → (is_line f ≡ true) ⊎ (is_line f ≡ false)
      → first_bad_note i behind (with_notes notes (f ∷ fs)) ≡ None
  fine-by notes i behind all (inl line) =
      let tail : List Field = lines_fields 86 None (first_note notes) ++ with_notes (other_notes notes) fs in
      ap (first_bad_note i behind) (with-line f fs notes line) ∙ no-bad-here i behind f tail none.0
      ∙ ap (λ (b : Bool). first_bad_note (i + 1) b tail) line
      ∙ one-fine (first_note notes) (other_notes notes) (i + 1) (first-form notes all) (others-form notes all)
  fine-by notes i behind all (inr other) =
      ap (first_bad_note i behind) (with-other f fs notes other) ∙ no-bad-here i behind f (with_notes notes fs) none.0
      ∙ later notes (i + 1) (is_line f) none.1 all

pub all-fine : (fs : List Field) → Fine fs
all-fine [] = λ notes i behind none all. refl
all-fine (f ∷ fs) = λ notes i behind none all. fine-by f fs (all-fine fs) none notes i behind all (cases_Bool (is_line f))

-- ---- they may stand in a text

note-fit : (note : List (List ℕ)) → IsNote note → AllByRecursion IsField (lines_fields 86 None note)
note-fit [] is = tt
note-fit (line ∷ more) (inl empty) = absurd (cc empty)
note-fit (line ∷ more) (inr is) = (is, tt)

both-fit : (fs gs : List Field) → AllByRecursion IsField fs → AllByRecursion IsField gs → AllByRecursion IsField (fs ++ gs)
both-fit [] gs f g = g
both-fit (x ∷ fs) gs f g = (f.0, both-fit fs gs f.1 g)

first-is : (notes : List (List (List ℕ))) → AllByRecursion IsNote notes → IsNote (first_note notes)
first-is [] all = inl refl
first-is (note ∷ notes) all = all.0

others-are : (notes : List (List (List ℕ))) → AllByRecursion IsNote notes → AllByRecursion IsNote (other_notes notes)
others-are [] all = tt
others-are (note ∷ notes) all = all.1

abbrev Fit : List Field → Type 0
Fit fs = (notes : List (List (List ℕ))) → AllByRecursion IsField fs → AllByRecursion IsNote notes → AllByRecursion IsField (with_notes notes fs)

module _ (f : Field) (fs : List Field) (later : Fit fs) (notes : List (List (List ℕ))) (fit : AllByRecursion IsField (f ∷ fs)) (are : AllByRecursion IsNote notes) where
  fit-by : (is_line f ≡ true) ⊎ (is_line f ≡ false) → AllByRecursion IsField (with_notes notes (f ∷ fs))
  fit-by (inl line) =
      subst (AllByRecursion IsField) (sym (with-line f fs notes line))
      (fit.0, both-fit (lines_fields 86 None (first_note notes)) (with_notes (other_notes notes) fs) (note-fit (first_note notes) (first-is notes are)) (later (other_notes notes) fit.1 (others-are notes are)))
  fit-by (inr other) = subst (AllByRecursion IsField) (sym (with-other f fs notes other)) (fit.0, later notes fit.1 are)

fit-all : (fs : List Field) → Fit fs
fit-all [] = λ notes fit are. tt
fit-all (f ∷ fs) = λ notes fit are. fit-by f fs (fit-all fs) notes fit are (cases_Bool (is_line f))

pub noted-fit : (fs : List Field) (notes : List (List (List ℕ))) → All IsField fs → All IsNote notes → All IsField (with_notes notes fs)
noted-fit fs notes fit are =
    All-from_recursion IsField (with_notes notes fs) (fit-all fs notes (recursion_from_All IsField fs fit) (recursion_from_All IsNote notes are))

-- ---- the fields that were read

-- what is left of fields without their notes may stand in a text
pub beside-fit : (fs : List Field) (behind : Bool) → AllByRecursion IsField fs → AllByRecursion IsField (without_notes behind fs)
beside-fit [] behind fit = tt
beside-fit (f ∷ fs) behind fit = go (behind && is_note f) (beside-fit fs false fit.1) (beside-fit fs (is_line f) fit.1)
  where
    go : (b : Bool) → AllByRecursion IsField (without_notes false fs) → AllByRecursion IsField (without_notes (is_line f) fs)
        → AllByRecursion IsField (cond b (without_notes false fs) (f ∷ without_notes (is_line f) fs))
    go true past here = past
    go false past here = (fit.0, here)

-- an 86 without a letter that may stand in a text: its lines are a note
note-kept : (f : Field) → IsField f → IsNote f.lines
note-kept f is = inr (record { tag = omega arith; letter = tt; lines = is.lines; bytes = is.bytes })

behind-kept : (fs : List Field) → AllByRecursion IsField fs → IsNote (note_behind fs)
behind-kept [] fit = inl refl
behind-kept (f ∷ fs) fit = go (is_note f)
  where
    go : (b : Bool) → IsNote (cond b f.lines [])
    go true = note-kept f fit.0
    go false = inl refl

pub notes-kept : (fs : List Field) → AllByRecursion IsField fs → AllByRecursion IsNote (notes_of fs)
notes-kept [] fit = tt
notes-kept (f ∷ fs) fit = go (is_line f) (notes-kept fs fit.1)
  where
    go : (b : Bool) → AllByRecursion IsNote (notes_of fs) → AllByRecursion IsNote (cond b (note_behind fs ∷ notes_of fs) (notes_of fs))
    go true later = (behind-kept fs fit.1, later)
    go false later = later

-- as many notes are read as there are 61
pub notes-count : (fs : List Field) → length (notes_of fs) ≡ lines_in fs
notes-count [] = refl
notes-count (f ∷ fs) = go (is_line f) (notes-count fs)
  where
    go : (b : Bool) → length (notes_of fs) ≡ lines_in fs → length (cond b (note_behind fs ∷ notes_of fs) (notes_of fs)) ≡ cond b (suc (lines_in fs)) (lines_in fs)
    go true later = ap suc later
    go false later = later

-- no 86 is a 61
note-no-line : (f : Field) → is_note f ≡ true → is_line f ≡ false
note-no-line f e = grind (arith, nat_tests)

abbrev Kept : List Field → Type 0
Kept fs = (behind : Bool) → lines_in (without_notes behind fs) ≡ lines_in fs

module _ (f : Field) (fs : List Field) (later : Kept fs) (behind : Bool) where
  kept-by : ((behind && is_note f) ≡ true) ⊎ ((behind && is_note f) ≡ false) → lines_in (without_notes behind (f ∷ fs)) ≡ lines_in (f ∷ fs)
  kept-by (inl met) =
      let other = note-no-line f (and-both behind (is_note f) met).1 in
      ap lines_in (without-note 0 behind f fs met) ∙ later false ∙ sym (counts-other f fs other)
  kept-by (inr unmet) = ap lines_in (without-field 0 behind f fs unmet) ∙ same (is_line f)
    where
      same : (b : Bool) → cond b (suc (lines_in (without_notes (is_line f) fs))) (lines_in (without_notes (is_line f) fs)) ≡ cond b (suc (lines_in fs)) (lines_in fs)
      same true = ap suc (later (is_line f))
      same false = later (is_line f)

pub lines-kept : (fs : List Field) → Kept fs
lines-kept [] = λ behind. refl
lines-kept (f ∷ fs) = λ behind. kept-by f fs (lines-kept fs) behind (cases_Bool (behind && is_note f))

-- the notes of fields whose 86 all have the form of one have it
abbrev Formed : List Field → Type 0
Formed fs = (i : ℕ) (behind : Bool) → first_bad_note i behind fs ≡ None → AllByRecursion HasForm (notes_of fs)

text-of : (i : ℕ) (g : Field) (gs : List Field) (b : Bool) → is_note_text g.lines ≡ b → first_bad_note i true (g ∷ gs) ≡ None → is_note g ≡ true → is_note_text g.lines ≡ true
text-of i g gs true at e note = at
text-of i g gs false at e note = absurd (cc (sym (bad-note 0 true g gs i note at) ∙ e))

behind-form : (i : ℕ) (fs : List Field) → first_bad_note i true fs ≡ None → HasForm (note_behind fs)
behind-form i [] e = inl refl
behind-form i (g ∷ gs) e = go (is_note g) refl
  where
    go : (b : Bool) → is_note g ≡ b → HasForm (cond b g.lines [])
    go true note = inr (text-of i g gs (is_note_text g.lines) refl e note)
    go false other = inl refl

module _ (f : Field) (fs : List Field) (later : Formed fs) (i : ℕ) (behind : Bool) (e : first_bad_note i behind (f ∷ fs) ≡ None) where
  abbrev All_formed : Type 0
  All_formed = AllByRecursion HasForm (notes_of (f ∷ fs))

  after-note : (behind && is_note f) ≡ true → (is_note_text f.lines ≡ true) ⊎ (is_note_text f.lines ≡ false) → All_formed
  after-note met (inl good) =
      let other = note-no-line f (and-both behind (is_note f) met).1 in
      subst (AllByRecursion HasForm) (sym (notes-other f fs other)) (later (i + 1) false (sym (good-note 0 behind f fs i met good) ∙ e))
  after-note met (inr bad) = absurd (cc (sym (bad-note 0 behind f fs i met bad) ∙ e))

  after-field : first_bad_note (i + 1) (is_line f) fs ≡ None → (is_line f ≡ true) ⊎ (is_line f ≡ false) → All_formed
  after-field none (inl line) =
      subst (AllByRecursion HasForm) (sym (notes-line f fs line))
      (behind-form (i + 1) fs (ap (λ (b : Bool). first_bad_note (i + 1) b fs) (sym line) ∙ none), later (i + 1) (is_line f) none)
  after-field none (inr other) = subst (AllByRecursion HasForm) (sym (notes-other f fs other)) (later (i + 1) (is_line f) none)

  formed-by : ((behind && is_note f) ≡ true) ⊎ ((behind && is_note f) ≡ false) → All_formed
  formed-by (inl met) = after-note met (cases_Bool (is_note_text f.lines))
  formed-by (inr unmet) = after-field (sym (no-note 0 behind f fs i unmet) ∙ e) (cases_Bool (is_line f))

pub notes-formed : (fs : List Field) → Formed fs
notes-formed [] = λ i behind e. tt
notes-formed (f ∷ fs) = λ i behind e. formed-by f fs (notes-formed fs) i behind e (cases_Bool (behind && is_note f))
