-- The fields of a message, written place by place, stand in the order of its places and may stand in a text.
use Rattle.std.proofs.Common.{◌≡◌, ℕ, ◌+◌, ◌==◌, ◌&&◌, ◌⊎◌, not, Bool, true, false, List, [], ◌∷◌, ◌++◌, length, map, get_or, drop, position, Option, Some, None, refl, sym, ap, ◌∙◌, arith, inl, inr}
use Rattle.std.specs.Prelude.{IfSome}
use Rattle.std.specs.List.{All, AllByRecursion, list_all, list_any}
use Rattle.std.proofs.lemmas.Bool.{eqb-true}
use Rattle.std.proofs.lemmas.List.Elements.{All-append, All-cons, All-head, All-tail}
use Rattle.ref_tables.specs.Seen.{Tables}
use Rattle.fin_fields.specs.declared.field.Field.{Field}
use Rattle.fin_fields.specs.Faults.{letter_of}
use Rattle.fin_fields.specs.Writing.{IsField}
use Rattle.fin_fields.proofs.laws.Positions.{position-here, position-later}
use Rattle.fin_layout.specs.declared.place.Place.{Place}
use Rattle.fin_layout.specs.Order.{fits, free_after, place_from}
use Rattle.fin_layout.specs.Segments.{joined}
use Rattle.fin_layout.specs.inner.Segments.{IsFirst, Segment}
use Rattle.fin_parties.specs.Writing.{party_field}
use Rattle.fin_parties.specs.declared.party.Party.{Party}
use Rattle.fin_parties.proofs.laws.Again.{letter-kept, party-fit}
use Rattle.fin_contents.specs.Parties.{known_party_of}
use Rattle.fin_contents.specs.Writing.{lines_field, lines_fields, some_field}
use Rattle.fin_contents.proofs.laws.Again.{known_party-again, party-of-known}
use Rattle.fin_contents.proofs.laws.Back.{Again}
use Rattle.fin_contents.proofs.laws.Bytes.{and-both}
use Rattle.fin_contents.proofs.laws.Said.{Said, Stands}

-- ---- the first place of a field

past-other-tags : (before : List Place) (p : Place) (after : List Place) (f : Field) → list_all (λ q. not (q.tag == f.tag)) before ≡ true → fits p f ≡ true → position (λ q. fits q f) (before ++ p ∷ after) ≡ Some (length before)
past-other-tags [] p after f other here = position-here (λ q. fits q f) p after here
past-other-tags (q ∷ before) p after f other here =
    let both = and-both (not (q.tag == f.tag)) (list_all (λ q. not (q.tag == f.tag)) before) other in
    position-later (λ q. fits q f) q (before ++ p ∷ after) (no-fit (q.tag == f.tag) _ both.0) ∙ rw (past-other-tags before p after f both.1 here) (ap Some (omega arith))
  where
    no-fit : (same letter : Bool) → not same ≡ true → (same && letter) ≡ false
    no-fit true letter e = absurd (cc e)
    no-fit false letter e = refl

-- a field that fits a place, where no place between has its tag
pub first-of-tag : (order : List Place) (low : ℕ) (before : List Place) (p : Place) (after : List Place) (f : Field) → drop low order ≡ before ++ p ∷ after → list_all (λ q. not (q.tag == f.tag)) before ≡ true → fits p f ≡ true
    → place_from order low f ≡ Some (low + length before)
first-of-tag order low before p after f cut other here = rw (cut, past-other-tags before p after f other here) refl

-- ---- the fields of a place

-- a field that may stand at a place may stand there alone
pub one-segment : (order : List Place) (low j : ℕ) (f : Field) → IsFirst order low j f → Segment order low j (f ∷ [])
one-segment order low j f first = record { each = (first, tt); single = inr (omega arith) }

-- so is one that may be missing
pub some-segment : {A : Type 0} (order : List Place) (low j : ℕ) (write : A → Field) (o : Option A) → IfSome o (λ x. IsFirst order low j (write x)) → Segment order low j (some_field write o)
some-segment order low j write None first = record { each = tt; single = inr (omega arith) }
some-segment order low j write (Some x) first = record { each = (first, tt); single = inr (omega arith) }

map-each : {A : Type 0} (P : Field → Type 0) (write : A → Field) (xs : List A) → AllByRecursion (λ x. P (write x)) xs → AllByRecursion P (map write xs)
map-each P write [] e = tt
map-each P write (x ∷ xs) e = (e.0, map-each P write xs e.1)

-- fields of a place that may be repeated all stand there
pub all-segment : {A : Type 0} (order : List Place) (low j : ℕ) (write : A → Field) (xs : List A) → free_after order j ≡ j → AllByRecursion (λ x. IsFirst order low j (write x)) xs → Segment order low j (map write xs)
all-segment order low j write xs many first = record { each = map-each (IsFirst order low j) write xs first; single = inl many }

-- so does a field of lines, which is missing where there are none
pub lines-segment : (order : List Place) (low j tag : ℕ) (letter : Option ℕ) (lines : List (List ℕ)) → IsFirst order low j (lines_field tag letter lines) → Segment order low j (lines_fields tag letter lines)
lines-segment order low j tag letter [] first = record { each = tt; single = inr (omega arith) }
lines-segment order low j tag letter (line ∷ lines) first = record { each = (first, tt); single = inr (omega arith) }

-- ---- what holds of each field

-- each field of the places
abbrev pub Each : (Field → Type 0) → List (List Field) → Type 0
Each P [] = Unit {0}
Each P (s ∷ ss) = AllByRecursion P s × Each P ss

-- what holds of the fields of both lists of places holds of those of the one list of all
pub each-append : (P : Field → Type 0) (segs more : List (List Field)) → Each P segs → Each P more → Each P (segs ++ more)
each-append P [] more e f = f
each-append P (s ∷ ss) more e f = (e.0, each-append P ss more e.1 f)

-- what holds of a field that may be missing holds of the fields that are written of it
pub some-each : {A : Type 0} (P : Field → Type 0) (write : A → Field) (o : Option A) → IfSome o (λ x. P (write x)) → AllByRecursion P (some_field write o)
some-each P write None e = tt
some-each P write (Some x) e = (e, tt)

-- what holds of the field of each value holds of all that are written
pub all-each : {A : Type 0} (P : Field → Type 0) (write : A → Field) (xs : List A) → AllByRecursion (λ x. P (write x)) xs → AllByRecursion P (map write xs)
all-each P write xs e = map-each P write xs e

-- the same of a field of lines, which is missing where there are none
pub lines-each : (P : Field → Type 0) (tag : ℕ) (letter : Option ℕ) (lines : List (List ℕ)) → (lines ≡ []) ⊎ P (lines_field tag letter lines) → AllByRecursion P (lines_fields tag letter lines)
lines-each P tag letter [] e = tt
lines-each P tag letter (line ∷ lines) (inl none) = absurd (cc none)
lines-each P tag letter (line ∷ lines) (inr e) = (e, tt)

-- what holds item after item holds at each place
pub all-of : {A : Type 0} (P : A → Type 0) (xs : List A) → AllByRecursion P xs → All P xs
all-of P [] e = λ k d lt. absurd (omega arith)
all-of P (x ∷ xs) e = All-cons P x xs e.0 (all-of P xs e.1)

-- and the other way
pub each-of : {A : Type 0} (P : A → Type 0) (xs : List A) → All P xs → AllByRecursion P xs
each-of P [] e = tt
each-of P (x ∷ xs) e = (All-head P x xs e, each-of P xs (All-tail P x xs e))

-- what holds of the fields of each place holds of the whole text's fields
pub each-joined : (P : Field → Type 0) (segs : List (List Field)) → Each P segs → All P (joined segs)
each-joined P [] e = λ k d lt. absurd (omega arith)
each-joined P (s ∷ ss) e = All-append P s (joined ss) (all-of P s e.0) (each-joined P ss e.1)

-- ---- parties

fits-tag : (p : Place) (f : Field) → fits p f ≡ true → p.tag ≡ f.tag
fits-tag p f e = eqb-true p.tag f.tag (and-both (p.tag == f.tag) (list_any (λ o. o == letter_of f) p.options) e).0

module _ (order : List Place) (P : Field → Type 0) (k tag : ℕ) (d : Place) (at : (get_or order k d).tag ≡ tag) (t : Tables) (p : Party) where
  same-tag : (f : Field) → Stands order P k f → f.tag ≡ tag
  same-tag f s = sym (fits-tag (get_or order k d) f (s.fitting d)) ∙ at

  -- a party that was read at its place, written as a field, is read as itself
  pub party-again-at : Again (Stands order P k) (known_party_of t) (party_field tag) p
  party-again-at f s e = rw (← same-tag f s) (known_party-again t f p e)

  -- its field fits the place
  pub party-fits-at : Said (Stands order P k) (known_party_of t) p → fits (get_or order k d) (party_field tag p) ≡ true
  party-fits-at s = rw (← same-tag s.field s.holds, letter-kept s.field p (party-of-known t s.field p s.says).0) (s.holds.fitting d)

  -- and can stand in a text
  pub party-fit-at : ((f : Field) → P f → IsField f) → Said (Stands order P k) (known_party_of t) p → IsField (party_field tag p)
  party-fit-at is s = rw (← same-tag s.field s.holds) (party-fit s.field p (party-of-known t s.field p s.says).0 (is s.field s.holds.has))
