-- The contents of an MT940 in the text's order: those of the MT950 beside its 86, and these among them.
use Rattle.std.proofs.Common.{◌≡◌, ℕ, zero, suc, ◌+◌, ◌-◌, ◌≤◌, ◌&&◌, ◌⊎◌, Bool, true, false, List, [], ◌∷◌, ◌++◌, length, take, Option, Some, None, refl, sym, ap, ◌∙◌, subst, arith, inl, inr, append_assoc, length-append}
use Rattle.std.specs.Prelude.{count_by, if◌then◌else◌}
use Rattle.std.proofs.lemmas.Bool.{cases_Bool}
use Rattle.std.proofs.lemmas.List.{take_at}
use Rattle.corr_text.specs.Codes.{code}
use Rattle.corr_text.specs.First.{first_of}
use Rattle.corr_text.specs.declared.fault.Code.{Code}
use Rattle.corr_text.specs.declared.fault.Fault.{Fault}
use Rattle.ref_tables.specs.Seen.{Tables}
use Rattle.fin_fields.specs.Faults.{is_like}
use Rattle.fin_fields.specs.declared.field.Field.{Field}
use Rattle.fin_layout.specs.Naming.{fault_at}
use Rattle.fin_layout.specs.Order.{free_after, place_from, places_from}
use Rattle.fin_layout.specs.Tests.{contents_from}
use Rattle.fin_contents.proofs.laws.Bytes.{and-both}
use Rattle.mt950.specs.Order.{order_950}
use Rattle.mt950.specs.Page.{content_test}
use Rattle.mt940_out.specs.inner.Faults.{first_bad_note, is_ahead}
use Rattle.mt940_out.specs.Order.{is_line, is_note, places_940, without_notes}
use Rattle.mt940_out.specs.Page.{content_test_940, is_note_text, note_fault}
use Rattle.mt940_out.proofs.Counts.{SameCounts, ahead-within, count-front, counts-field, counts-note, fault-behind, not-ahead, told-alike, told_behind}
use Rattle.mt940_out.proofs.Steps.{Step, Takes, bad-note, good-note, next-place, no-note, no-place, option-cases, other-place, places-note, places-placed, places-unplaced, step-of, takes-no-note, takes-placed, without-field, without-note}

-- the fault that is told where the first 86 of another form stands at `bad`, and the others' first fault is this
abbrev pub chosen : List Field → Option ℕ → Option Fault → Option Fault
chosen whole None first = first
chosen whole (Some n) None = Some (fault_at whole n (code "P24"))
chosen whole (Some n) (Some fault) = if is_ahead (take n whole) fault then Some fault else Some (fault_at whole n (code "P24"))

-- ---- the next content

module _ (test : ℕ → Field → Option Code) (whole : List Field) (i k : ℕ) (found : List ℕ) (f : Field) (fs : List Field) where
  pub content-bad : (c : Code) → test k f ≡ Some c → first_of (contents_from test whole i (k ∷ found) (f ∷ fs)) ≡ Some (fault_at whole i c)
  unfolding contents_from
  content-bad c e = rw e refl

  pub content-good : test k f ≡ None → first_of (contents_from test whole i (k ∷ found) (f ∷ fs)) ≡ first_of (contents_from test whole (i + 1) found fs)
  unfolding contents_from
  content-good e = rw e refl

pub content-none : (test : ℕ → Field → Option Code) (whole : List Field) (i : ℕ) (fs : List Field) → first_of (contents_from test whole i [] fs) ≡ None
unfolding contents_from
content-none test whole i fs = refl

code-cases : (o : Option Code) → (o ≡ None) ⊎ ((c : Code) × (o ≡ Some c))
code-cases None = inl refl
code-cases (Some c) = inr (c, refl)

note-fine : (f : Field) → is_note_text f.lines ≡ true → note_fault f ≡ None
note-fine f e = rw e refl

note-faulty : (f : Field) → is_note_text f.lines ≡ false → note_fault f ≡ Some (code "P24")
note-faulty f e = rw e refl

-- ---- lists

pub moved : (whole pre : List Field) (f : Field) (fs : List Field) → whole ≡ pre ++ f ∷ fs → whole ≡ (pre ++ f ∷ []) ++ fs
moved whole pre f fs e = e ∙ sym (append_assoc pre (f ∷ []) fs)

pub counted : (pre : List Field) (f : Field) (i : ℕ) → i ≡ length pre → i + 1 ≡ length (pre ++ f ∷ [])
counted pre f i e = omega (arith, e, length-append pre (f ∷ []))

-- where the first of another form stands: not before the first of the fields
abbrev BadFrom : List Field → Type 0
BadFrom fs = (behind : Bool) (i n : ℕ) → first_bad_note i behind fs ≡ Some n → i ≤ n

module _ (f : Field) (fs : List Field) (later : BadFrom fs) (behind : Bool) (i n : ℕ) (e : first_bad_note i behind (f ∷ fs) ≡ Some n) where
  past-note : (behind && is_note f) ≡ true → (is_note_text f.lines ≡ true) ⊎ (is_note_text f.lines ≡ false) → i ≤ n
  past-note met (inl good) = let low = later false (i + 1) n (sym (good-note 0 behind f fs i met good) ∙ e) in omega (arith, low)
  past-note met (inr bad) = let same : i ≡ n = cc (sym (bad-note 0 behind f fs i met bad) ∙ e) in omega (arith, same)

  past-field : (behind && is_note f) ≡ false → i ≤ n
  past-field unmet = let low = later (is_line f) (i + 1) n (sym (no-note 0 behind f fs i unmet) ∙ e) in omega (arith, low)

  past-any : ((behind && is_note f) ≡ true) ⊎ ((behind && is_note f) ≡ false) → i ≤ n
  past-any (inl met) = past-note met (cases_Bool (is_note_text f.lines))
  past-any (inr unmet) = past-field unmet

pub bad-from : (fs : List Field) → BadFrom fs
bad-from [] = λ behind i n e. absurd (cc e)
bad-from (f ∷ fs) = λ behind i n e. past-any f fs (bad-from fs) behind i n e (cases_Bool (behind && is_note f))

-- fields of a front stand in each longer one
pub longer-front : (whole pre fs : List Field) (n : ℕ) → whole ≡ pre ++ fs → length pre ≤ n → take n whole ≡ pre ++ take (n - length pre) fs
longer-front whole pre fs n e le = ap (take n) e ∙ front pre n le
  where
    front : (ps : List Field) (m : ℕ) → length ps ≤ m → take m (ps ++ fs) ≡ ps ++ take (m - length ps) fs
    front [] m le = let same : m ≡ m - 0 = omega arith in ap (λ (k : ℕ). take k fs) same
    front (p ∷ ps) zero le = absurd (omega (arith, le))
    front (p ∷ ps) (suc m) le =
        let same : m - length ps ≡ suc m - suc (length ps) = omega arith in
        ap (λ (ys : List Field). p ∷ ys) (front ps m (omega (arith, le)) ∙ ap (λ (k : ℕ). ps ++ take k fs) same)

module _ (t : Tables) (decimals : ℕ) where
  abbrev pub of_950 : ℕ → Field → Option Code
  of_950 = content_test t decimals

  abbrev pub of_940 : ℕ → Field → Option Code
  of_940 = content_test_940 t decimals

  at-other : (k : ℕ) (f : Field) (free : ℕ) → Takes free f k → of_940 k f ≡ of_950 k f
  at-other k f free at = rw (other-place k (takes-placed free k f at).within) refl

  -- the first fault of fields from here on
  abbrev pub first_940 : ℕ → Bool → List Field → ℕ → List Field → Option Fault
  first_940 free behind whole i fs = first_of (contents_from of_940 whole i (places_940 free behind fs) fs)

  abbrev pub first_950 : ℕ → List Field → ℕ → List Field → Option Fault
  first_950 free all j fs = first_of (contents_from of_950 all j (places_from order_950 free fs) fs)

  -- ---- an MT950's contents

  module _ (free : ℕ) (all : List Field) (j : ℕ) (f : Field) (fs : List Field) where
    stops-950 : place_from order_950 free f ≡ None → first_950 free all j (f ∷ fs) ≡ None
    stops-950 none = ap (λ (found : List ℕ). first_of (contents_from of_950 all j found (f ∷ fs))) (no-place free f fs none) ∙ content-none of_950 all j (f ∷ fs)

    good-950 : (k : ℕ) → Takes free f k → of_950 k f ≡ None → first_950 free all j (f ∷ fs) ≡ first_950 (free_after order_950 k) all (j + 1) fs
    good-950 k takes good =
        ap (λ (found : List ℕ). first_of (contents_from of_950 all j found (f ∷ fs))) (next-place free f fs k takes)
        ∙ content-good of_950 all j k (places_from order_950 (free_after order_950 k) fs) f fs good

    bad-950 : (k : ℕ) (c : Code) → Takes free f k → of_950 k f ≡ Some c → first_950 free all j (f ∷ fs) ≡ Some (fault_at all j c)
    bad-950 k c takes bad =
        ap (λ (found : List ℕ). first_of (contents_from of_950 all j found (f ∷ fs))) (next-place free f fs k takes)
        ∙ content-bad of_950 all j k (places_from order_950 (free_after order_950 k) fs) f fs c bad

  -- of each field but an 86 at most as many like it are ahead as beside
  abbrev AtMost : List Field → List Field → Type 0
  AtMost pre beside = (g : Field) → is_note g ≡ false → count_by (is_like g) pre ≤ count_by (is_like g) beside

  -- a fault of fields that come later isn't ahead
  abbrev Later : List Field → Type 0
  Later fs = (free : ℕ) (all pre beside : List Field) (j : ℕ) (fault : Fault) → all ≡ beside ++ fs → j ≡ length beside → AtMost pre beside
      → first_950 free all j fs ≡ Some fault → is_ahead pre fault ≡ false

  nothing-later : (all : List Field) (j : ℕ) (found : List ℕ) → first_of (contents_from of_950 all j found []) ≡ None
  unfolding contents_from
  nothing-later all j [] = refl
  nothing-later all j (k ∷ found) = refl

  module _ (f : Field) (fs : List Field) (later : Later fs) (free : ℕ) (all pre beside : List Field) (j : ℕ) (fault : Fault) (e : all ≡ beside ++ f ∷ fs)
      (at : j ≡ length beside) (few : AtMost pre beside) (first : first_950 free all j (f ∷ fs) ≡ Some fault) where
    later-at : (k : ℕ) → Takes free f k → (of_950 k f ≡ None) ⊎ ((c : Code) × (of_950 k f ≡ Some c)) → is_ahead pre fault ≡ false
    later-at k takes (inl good) =
        later (free_after order_950 k) all pre (beside ++ f ∷ []) (j + 1) fault (moved all beside f fs e) (counted beside f j at)
        (λ g unmet. let more = count-front (is_like g) beside (f ∷ []) in omega (arith, few g unmet, more))
        (sym (good-950 free all j f fs k takes good) ∙ first)
    later-at k takes (inr (c, bad)) =
        let same : fault_at all j c ≡ fault = cc (sym (bad-950 free all j f fs k c takes bad) ∙ first) in
        let told : told_behind beside f c ≡ fault = sym (fault-behind all beside f fs j c e at) ∙ same in
        subst (λ (x : Fault). is_ahead pre x ≡ false) told (not-ahead pre beside f c (few f (takes-no-note free k f takes)))

    later-by : (place_from order_950 free f ≡ None) ⊎ ((k : ℕ) × Takes free f k) → is_ahead pre fault ≡ false
    later-by (inl none) = absurd (cc (sym (stops-950 free all j f fs none) ∙ first))
    later-by (inr (k, takes)) = later-at k takes (code-cases (of_950 k f))

  pub later-fault : (fs : List Field) → Later fs
  later-fault [] = λ free all pre beside j fault e at few first. absurd (cc (sym (nothing-later all j (places_from order_950 free [])) ∙ first))
  later-fault (f ∷ fs) = λ free all pre beside j fault e at few first.
      later-by f fs (later-fault fs) free all pre beside j fault e at few first (option-cases (place_from order_950 free f))

  -- ---- all contents

  -- what has been passed: these fields, and those beside among them
  pub record Passed (whole pre all beside fs rest : List Field) (i j : ℕ) : Type 0 where
    pub whole_is : whole ≡ pre ++ fs
    pub at : i ≡ length pre
    pub all_is : all ≡ beside ++ rest
    pub beside_at : j ≡ length beside
    pub counts : SameCounts pre beside

  chosen-not-ahead : (whole : List Field) (n : ℕ) (o : Option Fault) → ((fault : Fault) → o ≡ Some fault → is_ahead (take n whole) fault ≡ false)
      → chosen whole (Some n) o ≡ Some (fault_at whole n (code "P24"))
  chosen-not-ahead whole n None unmet = refl
  chosen-not-ahead whole n (Some fault) unmet = rw (unmet fault refl) refl

  chosen-ahead : (whole : List Field) (bad : Option ℕ) (fault : Fault) → ((n : ℕ) → bad ≡ Some n → is_ahead (take n whole) fault ≡ true)
      → chosen whole bad (Some fault) ≡ Some fault
  chosen-ahead whole None fault met = refl
  chosen-ahead whole (Some n) fault met = rw (met n refl) refl

  -- the fields of a text from here on, with their first fault
  abbrev IsMerged : ℕ → Bool → List Field → List Field → ℕ → ℕ → List Field → Type 0
  IsMerged free behind whole all i j fs =
      first_940 free behind whole i fs ≡ chosen whole (first_bad_note i behind fs) (first_950 free all j (without_notes behind fs))

  abbrev Merged : List Field → Type 0
  Merged fs = (free : ℕ) (behind : Bool) (whole pre all beside : List Field) (i j : ℕ) → Passed whole pre all beside fs (without_notes behind fs) i j
      → length (places_940 free behind fs) ≡ length fs → IsMerged free behind whole all i j fs

  module _ (f : Field) (fs : List Field) (later : Merged fs) (free : ℕ) (behind : Bool) (whole pre all beside : List Field) (i j : ℕ)
      (passed : Passed whole pre all beside (f ∷ fs) (without_notes behind (f ∷ fs)) i j) (len : length (places_940 free behind (f ∷ fs)) ≡ length (f ∷ fs)) where
    abbrev Here : Type 0
    Here = IsMerged free behind whole all i j (f ∷ fs)

    good-note-here : (behind && is_note f) ≡ true → is_note_text f.lines ≡ true → Here
    good-note-here met good =
        let rest : without_notes behind (f ∷ fs) ≡ without_notes false fs = without-note free behind f fs met in
        let on : first_940 free behind whole i (f ∷ fs) ≡ first_940 free false whole (i + 1) fs =
        ap (λ (found : List ℕ). first_of (contents_from of_940 whole i found (f ∷ fs))) (places-note free behind f fs met)
        ∙ content-good of_940 whole i 7 (places_940 free false fs) f fs (note-fine f good) in
        let placed : length (places_940 free false fs) ≡ length fs = omega (arith, ap length (places-note free behind f fs met), len) in
        on
        ∙ later free false whole (pre ++ f ∷ []) all beside (i + 1) j
        (record {
          whole_is = moved whole pre f fs passed.whole_is;
          at = counted pre f i passed.at;
          all_is = passed.all_is ∙ ap (λ (r : List Field). beside ++ r) rest;
          beside_at = passed.beside_at;
          counts = counts-note pre beside f passed.counts (and-both behind (is_note f) met).1;
        }) placed
        ∙ sym (ap (λ (bad : Option ℕ). chosen whole bad (first_950 free all j (without_notes false fs))) (good-note free behind f fs i met good))
        ∙ sym (ap (λ (r : List Field). chosen whole (first_bad_note i behind (f ∷ fs)) (first_950 free all j r)) rest)

    bad-note-here : (behind && is_note f) ≡ true → is_note_text f.lines ≡ false → Here
    bad-note-here met bad =
        let here : first_940 free behind whole i (f ∷ fs) ≡ Some (fault_at whole i (code "P24")) =
        ap (λ (found : List ℕ). first_of (contents_from of_940 whole i found (f ∷ fs))) (places-note free behind f fs met)
        ∙ content-bad of_940 whole i 7 (places_940 free false fs) f fs (code "P24") (note-faulty f bad) in
        let front : take i whole ≡ pre = ap (take i) passed.whole_is ∙ take_at pre (f ∷ fs) i (sym passed.at) in
        here
        ∙ sym (chosen-not-ahead whole i (first_950 free all j (without_notes behind (f ∷ fs))) (λ fault first.
        subst (λ (ps : List Field). is_ahead ps fault ≡ false) (sym front)
        (later-fault (without_notes behind (f ∷ fs)) free all pre beside j fault passed.all_is passed.beside_at
        (λ g unmet. let same = passed.counts.same g unmet in omega (arith, same)) first)))
        ∙ sym (ap (λ (b : Option ℕ). chosen whole b (first_950 free all j (without_notes behind (f ∷ fs)))) (bad-note free behind f fs i met bad))

    note-here : (behind && is_note f) ≡ true → (is_note_text f.lines ≡ true) ⊎ (is_note_text f.lines ≡ false) → Here
    note-here met (inl good) = good-note-here met good
    note-here met (inr bad) = bad-note-here met bad

    module _ (unmet : (behind && is_note f) ≡ false) (k : ℕ) (takes : Takes free f k) where
      abbrev next : ℕ
      next = free_after order_950 k

      abbrev others : List Field
      others = without_notes (is_line f) fs

      rest : without_notes behind (f ∷ fs) ≡ f ∷ others
      rest = without-field free behind f fs unmet

      all-here : all ≡ beside ++ f ∷ others
      all-here = passed.all_is ∙ ap (λ (r : List Field). beside ++ r) rest

      good-here : of_950 k f ≡ None → Here
      good-here good =
          let on : first_940 free behind whole i (f ∷ fs) ≡ first_940 next (is_line f) whole (i + 1) fs =
          ap (λ (found : List ℕ). first_of (contents_from of_940 whole i found (f ∷ fs))) (places-placed free behind f fs unmet k takes)
          ∙ content-good of_940 whole i k (places_940 next (is_line f) fs) f fs (at-other k f free takes ∙ good) in
          let placed : length (places_940 next (is_line f) fs) ≡ length fs = omega (arith, ap length (places-placed free behind f fs unmet k takes), len) in
          on
          ∙ later next (is_line f) whole (pre ++ f ∷ []) all (beside ++ f ∷ []) (i + 1) (j + 1)
          (record {
            whole_is = moved whole pre f fs passed.whole_is;
            at = counted pre f i passed.at;
            all_is = moved all beside f others all-here;
            beside_at = counted beside f j passed.beside_at;
            counts = counts-field pre beside f passed.counts;
          }) placed
          ∙ sym (ap (λ (o : Option Fault). chosen whole (first_bad_note (i + 1) (is_line f) fs) o) (good-950 free all j f others k takes good))
          ∙ sym (ap (λ (b : Option ℕ). chosen whole b (first_950 free all j (f ∷ others))) (no-note free behind f fs i unmet))
          ∙ sym (ap (λ (r : List Field). chosen whole (first_bad_note i behind (f ∷ fs)) (first_950 free all j r)) rest)

      module _ (c : Code) (bad : of_950 k f ≡ Some c) where
        whole-told : fault_at whole i c ≡ told_behind pre f c
        whole-told = fault-behind whole pre f fs i c passed.whole_is passed.at

        same-fault : fault_at all j c ≡ fault_at whole i c
        same-fault =
            fault-behind all beside f others j c all-here passed.beside_at
            ∙ sym (told-alike pre beside f c passed.counts (takes-no-note free k f takes)) ∙ sym whole-told

        ahead : (n : ℕ) → first_bad_note i behind (f ∷ fs) ≡ Some n → is_ahead (take n whole) (fault_at whole i c) ≡ true
        ahead n e =
            let low = bad-from fs (is_line f) (i + 1) n (sym (no-note free behind f fs i unmet) ∙ e) in
            let more : List Field = take (n - length (pre ++ f ∷ [])) fs in
            let front : take n whole ≡ (pre ++ f ∷ []) ++ more =
            longer-front whole (pre ++ f ∷ []) fs n (moved whole pre f fs passed.whole_is) (omega (arith, low, counted pre f i passed.at)) in
            ap (λ (ps : List Field). is_ahead ps (fault_at whole i c)) front
            ∙ ap (λ (x : Fault). is_ahead ((pre ++ f ∷ []) ++ more) x) whole-told
            ∙ ahead-within pre f more c

        bad-here : Here
        bad-here =
            ap (λ (found : List ℕ). first_of (contents_from of_940 whole i found (f ∷ fs))) (places-placed free behind f fs unmet k takes)
            ∙ content-bad of_940 whole i k (places_940 next (is_line f) fs) f fs c (at-other k f free takes ∙ bad)
            ∙ sym (chosen-ahead whole (first_bad_note i behind (f ∷ fs)) (fault_at whole i c) ahead)
            ∙ sym (ap (λ (o : Option Fault). chosen whole (first_bad_note i behind (f ∷ fs)) o)
            (ap (λ (r : List Field). first_950 free all j r) rest ∙ bad-950 free all j f others k c takes bad ∙ ap (λ (x : Fault). Some x) same-fault))

      field-here : (of_950 k f ≡ None) ⊎ ((c : Code) × (of_950 k f ≡ Some c)) → Here
      field-here (inl good) = good-here good
      field-here (inr (c, bad)) = bad-here c bad

    merged-step : Step free behind f fs → Here
    merged-step (inl met) = note-here met (cases_Bool (is_note_text f.lines))
    merged-step (inr (unmet, inl none)) = absurd (cc (sym (ap length (places-unplaced free behind f fs unmet none)) ∙ len))
    merged-step (inr (unmet, inr (k, takes))) = field-here unmet k takes (code-cases (of_950 k f))

  merged-end : (free : ℕ) (behind : Bool) (whole all : List Field) (i j : ℕ) → IsMerged free behind whole all i j []
  unfolding places_940 places_from contents_from
  merged-end free behind whole all i j = refl

  pub merged : (fs : List Field) → Merged fs
  merged [] = λ free behind whole pre all beside i j passed len. merged-end free behind whole all i j
  merged (f ∷ fs) = λ free behind whole pre all beside i j passed len.
      merged-step f fs (merged fs) free behind whole pre all beside i j passed len (step-of free behind f fs)
