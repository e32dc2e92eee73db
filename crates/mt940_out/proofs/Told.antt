-- The notes of payments may stand behind a 61.
use Rattle.std.proofs.Common.{◌≡◌, ℕ, zero, suc, ◌-◌, ◌<◌, ◌≤◌, ◌||◌, not, Bool, true, false, cond, List, [], ◌∷◌, ◌++◌, length, take, drop, slice_get, Option, Some, None, Result, Ok, Err, refl, sym, ap, ◌∙◌, subst, arith, inl, inr}
use Rattle.std.specs.Prelude.{codes, find, IfOk, IfSome}
use Rattle.std.specs.List.{All, AllByRecursion, filter}
use Rattle.std.specs.Option.{option_map_or}
use Rattle.std.proofs.lemmas.List.Elements.{All-from_recursion, recursion_from_All}
use Rattle.corr_text.specs.Lines.{begins_with}
use Rattle.fin_fields.specs.Faults.{has_other_byte, is_empty}
use Rattle.fin_fields.specs.Writing.{ContinueAll, Continues, IsField}
use Rattle.fin_fields.specs.declared.field.Field.{Field}
use Rattle.day_model.specs.declared.entry.Entry.{Entry}
use Rattle.day_model.specs.declared.pay.Mt.{Mt}
use Rattle.day_model.specs.declared.pay.Mt.TheVariants.{Transfer, Cover}
use Rattle.advices.specs.Fields.{is_named}
use Rattle.advices.specs.Received.{first_fields, sequence_b}
use Rattle.advices.proofs.laws.Copies.{found-each}
use Rattle.mt940_out.specs.Notes.{lines_named, may_continue, note_at, note_in, note_of, transfer_fields}
use Rattle.mt940_out.specs.inner.Writing.{IsNote}

-- a line of X
abbrev Plain : List ℕ → Type 0
Plain line = has_other_byte line ≡ false

-- one that may continue a field too
abbrev Further : List ℕ → Type 0
Further line = Continues line × Plain line

not-or : (a b c : Bool) → not (a || b || c) ≡ true → (a ≡ false) × (b ≡ false) × (c ≡ false)
not-or true b c e = absurd (cc e)
not-or false true c e = absurd (cc e)
not-or false false true e = absurd (cc e)
not-or false false false e = (refl, refl, refl)

continues : (line : List ℕ) → may_continue line ≡ true → Continues line
continues line e = not-or (is_empty line) (begins_with 58 line) (begins_with 45 line) e

kept-further : (lines : List (List ℕ)) → AllByRecursion Plain lines → AllByRecursion Further (filter may_continue lines)
kept-further [] all = tt
kept-further (line ∷ lines) all = go (may_continue line) refl (kept-further lines all.1)
  where
    go : (b : Bool) → may_continue line ≡ b → AllByRecursion Further (filter may_continue lines) → AllByRecursion Further (cond b (line ∷ filter may_continue lines) (filter may_continue lines))
    go true e later = ((continues line e, all.0), later)
    go false e later = later

-- the lines of a field: the first may be anything of X
abbrev AreLines : List (List ℕ) → Type 0
AreLines [] = Unit {0}
AreLines (line ∷ lines) = Plain line × AllByRecursion Further lines

both-hold : (lines : List (List ℕ)) → AllByRecursion Continues lines → AllByRecursion Plain lines → AllByRecursion Further lines
both-hold [] on plain = tt
both-hold (line ∷ lines) on plain = ((on.0, plain.0), both-hold lines on.1 plain.1)

field-lines : (f : Field) (lines : List (List ℕ)) → f.lines ≡ lines → ContinueAll lines → AllByRecursion Plain lines → AreLines lines
field-lines f [] e on plain = tt
field-lines f (line ∷ lines) e on plain = (plain.0, both-hold lines (recursion_from_All Continues lines on) plain.1)

lines-of : (f : Field) → IsField f → AreLines f.lines
lines-of f is = field-lines f f.lines refl is.lines (recursion_from_All Plain f.lines is.bytes)

found-lines : (test : Field → Bool) (o : Option Field) → IfSome o (λ f. (test f ≡ true) × IsField f) → AreLines (option_map_or (λ f. f.lines) o [])
found-lines test None is = tt
found-lines test (Some f) is = lines-of f is.1

named-lines : (tag : ℕ) (letters : List ℕ) (fs : List Field) → AllByRecursion IsField fs → AreLines (lines_named tag letters fs)
named-lines tag letters fs all = found-lines (is_named tag letters) (find (is_named tag letters) fs) (found-each IsField (is_named tag letters) fs all)

all-plain : (lines : List (List ℕ)) → AreLines lines → AllByRecursion Plain lines
all-plain [] are = tt
all-plain (line ∷ lines) are = (are.0, weaker lines are.1)
  where
    weaker : (ls : List (List ℕ)) → AllByRecursion Further ls → AllByRecursion Plain ls
    weaker [] all = tt
    weaker (l ∷ ls) all = (all.0.1, weaker ls all.1)

-- ---- a note

further-on : (lines : List (List ℕ)) → AllByRecursion Further lines → AllByRecursion Continues lines
further-on [] all = tt
further-on (line ∷ lines) all = (all.0.0, further-on lines all.1)

further-plain : (lines : List (List ℕ)) → AllByRecursion Further lines → AllByRecursion Plain lines
further-plain [] all = tt
further-plain (line ∷ lines) all = (all.0.1, further-plain lines all.1)

is-note : (line : List ℕ) (more : List (List ℕ)) → Plain line → AllByRecursion Further more → IsNote (line ∷ more)
is-note line more plain all =
    inr (record {
      tag = omega arith;
      letter = tt;
      lines = All-from_recursion Continues more (further-on more all);
      bytes = All-from_recursion Plain (line ∷ more) (plain, further-plain more all);
    })

lone-note : (more : List (List ℕ)) → AllByRecursion Further more → IsNote more
lone-note [] all = inl refl
lone-note (line ∷ more) all = is-note line more all.0.1 all.1

together : (payer more : List (List ℕ)) → AreLines payer → AllByRecursion Further more → IsNote (take 2 payer ++ more)
together [] more are all = lone-note more all
together (a ∷ []) more are all = is-note a more are.0 all
together (a ∷ b ∷ others) more are all = is-note a (b ∷ more) are.0 (are.1.0, all)

note-fits : (fs : List Field) → AllByRecursion IsField fs → IsNote (note_in fs)
note-fits fs all =
    together (lines_named 50 (codes "AFK") fs) (filter may_continue (lines_named 70 (codes " ") fs)) (named-lines 50 (codes "AFK") fs all)
    (kept-further (lines_named 70 (codes " ") fs) (all-plain (lines_named 70 (codes " ") fs) (named-lines 70 (codes " ") fs all)))

all-drop : {A : Type 0} (P : A → Type 0) (k : ℕ) (xs : List A) → AllByRecursion P xs → AllByRecursion P (drop k xs)
all-drop P zero xs all = all
all-drop P (suc k) [] all = tt
all-drop P (suc k) (x ∷ xs) all = all-drop P k xs all.1

told-fits : (mt : Mt) (fs : List Field) → AllByRecursion IsField fs → IsNote (note_in (transfer_fields mt fs))
told-fits Transfer fs all = note-fits fs all
told-fits Cover fs all = note-fits (sequence_b fs) (all-drop IsField (first_fields fs) fs all)

-- what fields that may stand in a text tell is a note
pub told-note : (mt : Mt) (fs : List Field) → All IsField fs → IsNote (note_in (transfer_fields mt fs))
told-note mt fs all = told-fits mt fs (recursion_from_All IsField fs all)

pub told-ok : {E : Type 0} (mt : Mt) (fs gs : List Field) (r : Result (List (List ℕ)) E) → All IsField fs → gs ≡ transfer_fields mt fs
    → IfOk r (λ note. note ≡ note_in gs) → IfOk r IsNote
told-ok mt fs gs (Ok note) fit same e = subst IsNote (sym (e ∙ ap note_in same)) (told-note mt fs fit)
told-ok mt fs gs (Err x) fit same e = tt

-- ---- at a place

pub all-one : {A : Type 0} (P : A → Type 0) (x : A) → P x → All P (x ∷ [])
all-one P x p = All-from_recursion P (x ∷ []) (p, tt)

pub all-get : {A : Type 0} (P : A → Type 0) (xs : List A) (i : ℕ) (x : A) → AllByRecursion P xs → slice_get xs i ≡ Some x → P x
all-get P [] i x all at = absurd (cc at)
all-get P (y ∷ xs) zero x all at = subst P (cc at) all.0
all-get P (y ∷ xs) (suc i) x all at = all-get P xs i x all.1 at

past-end : {A : Type 0} (xs : List A) (i : ℕ) → length xs ≤ i → slice_get xs i ≡ None
past-end [] i le = refl
past-end (x ∷ xs) zero le = absurd (omega (arith, le))
past-end (x ∷ xs) (suc i) le = past-end xs i (omega (arith, le))

pub note-past : (entries : List Entry) (place : ℕ) → length entries < place → note_at entries place ≡ []
note-past entries zero lt = absurd (omega (arith, lt))
note-past entries (suc k) lt = ap (λ (o : Option Entry). option_map_or (λ entry. note_of entry.pay) o []) (past-end entries k (omega (arith, lt)))

pub note-there : (entries : List Entry) (place : ℕ) (e : Entry) → 1 ≤ place → slice_get entries (place - 1) ≡ Some e → note_at entries place ≡ note_of e.pay
note-there entries zero e low at = absurd (omega (arith, low))
note-there entries (suc k) e low at =
    let same : suc k - 1 ≡ k = omega arith in
    ap (λ (o : Option Entry). option_map_or (λ entry. note_of entry.pay) o []) (ap (slice_get entries) (sym same) ∙ at)
