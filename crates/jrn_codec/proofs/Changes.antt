-- What is read is the record of a change, and each change's record is read.
use Rattle.std.proofs.Common.{◌≡◌, ℕ, zero, suc, ◌<◌, ◌^◌, ◌==◌, ◌&&◌, cond, List, [], ◌∷◌, ◌++◌, length, Option, Some, None, Err, refl, sym, ap, subst, ◌∙◌, append_assoc, arith}
use Rattle.std.specs.Prelude.{ℤ, FitsSigned, option_and_then}
use Rattle.std.specs.Int.{w16, w64, to_be_bytes}
use Rattle.std.proofs.lemmas.Bool.{eqb-true}
use Rattle.std.proofs.lemmas.Option.{same_Some, none-some}
use Rattle.std.proofs.lemmas.List.{append-nil, nil_from_length}
use Rattle.day_model.specs.declared.change.What.{What}
use Rattle.day_model.specs.declared.change.What.TheVariants.{Opened, Limits}
use Rattle.day_model.specs.Legal.{IsInForm}
use Rattle.jrn_codec.specs.declared.fault.EntryFault.{EntryFault}
use Rattle.jrn_codec.specs.declared.fault.EntryFault.TheVariants as faults
use Rattle.jrn_codec.specs.Answers.{IsGiven}
use Rattle.jrn_codec.specs.inner.Answers.{FailsToRead}
use Rattle.jrn_codec.specs.Spelling.{signed_bytes}
use Rattle.jrn_codec.specs.Header.{account_bytes}
use Rattle.jrn_codec.specs.Change.{IsWhat, change_bytes, ends_bytes}
use Rattle.jrn_codec.specs.inner.Reading.{signed_at}
use Rattle.jrn_codec.specs.inner.ChangeReading.{change_read, ends_at, opened_at, what_at}
use Rattle.jrn_codec.proofs.Accounts.{FitsRow, account_field}
use Rattle.jrn_codec.proofs.Fields.{IsBytes, IsField, step, resume, tested, differs, byte_field, field16, signed64_field}
use Rattle.jrn_codec.proofs.Legs.{after, both}

-- what stands behind the mark of a change
abbrev what_bytes : What → List ℕ
what_bytes (Opened account) = 0 ∷ account_bytes account
what_bytes (Limits n floor ceil) = 1 ∷ ends_bytes n.0 floor ceil

-- its parts have their widths
abbrev pub FitsWhat : What → Type 0
FitsWhat (Opened account) = FitsRow account
FitsWhat (Limits n floor ceil) = (n.0 < 2 ^ 16) × FitsSigned w64 floor × FitsSigned w64 ceil

-- ---- a new account

opened_takes : (bytes : List ℕ) (what : What) (rest : List ℕ) → IsBytes bytes → opened_at bytes ≡ Some (what, rest) → (0 ∷ bytes ≡ what_bytes what ++ rest) × FitsWhat what
unfolding opened_at
opened_takes bytes what rest b e =
    let account = step account_field (λ account. Some (Opened account.0, account.1)) bytes (what, rest) b e in
    subst (λ (x : What × List ℕ). (0 ∷ bytes ≡ what_bytes x.0 ++ x.1) × FitsWhat x.0) (same_Some (Opened account.value, account.rest) (what, rest) account.on)
    (ap (λ (s : List ℕ). 0 ∷ s) account.parts, account.fits)

-- ---- the ends of an account

abbrev ends_ceil : ℕ → ℤ → ℤ × List ℕ → Option (What × List ℕ)
ends_ceil n floor ceil = Some (Limits (record { 0 = n }) floor ceil.0, ceil.1)

abbrev ends_floor : ℕ → ℤ × List ℕ → Option (What × List ℕ)
ends_floor n floor = option_and_then (ends_ceil n floor.0) (signed_at w64 floor.1)

abbrev ends_number : ℕ × List ℕ → Option (What × List ℕ)
ends_number n = option_and_then (ends_floor n.0) (signed_at w64 n.1)

-- the parts of ends, however they are grouped
ends_parts : (n : ℕ) (floor ceil : ℤ) (rest : List ℕ) → to_be_bytes w16 n ++ (signed_bytes w64 floor ++ (signed_bytes w64 ceil ++ rest)) ≡ ends_bytes n floor ceil ++ rest
unfolding ends_bytes
ends_parts n floor ceil rest = simp append_assoc

ends_takes : (bytes : List ℕ) (what : What) (rest : List ℕ) → IsBytes bytes → ends_at bytes ≡ Some (what, rest) → (1 ∷ bytes ≡ what_bytes what ++ rest) × FitsWhat what
unfolding ends_at
ends_takes bytes what rest b e =
    let n = step field16 ends_number bytes (what, rest) b e in
    let floor = step signed64_field (ends_floor n.value) n.rest (what, rest) n.bytes_on n.on in
    let ceil = step signed64_field (ends_ceil n.value floor.value) floor.rest (what, rest) floor.bytes_on floor.on in
    let on = n.parts ∙ ap (λ (s : List ℕ). to_be_bytes w16 n.value ++ s) (floor.parts ∙ ap (λ (s : List ℕ). signed_bytes w64 floor.value ++ s) ceil.parts) in
    let whole : bytes ≡ ends_bytes n.value floor.value ceil.value ++ ceil.rest = on ∙ ends_parts n.value floor.value ceil.value ceil.rest in
    subst (λ (x : What × List ℕ). (1 ∷ bytes ≡ what_bytes x.0 ++ x.1) × FitsWhat x.0)
    (same_Some (Limits (record { 0 = n.value }) floor.value ceil.value, ceil.rest) (what, rest) ceil.on)
    (ap (λ (s : List ℕ). 1 ∷ s) whole, (n.fits, floor.fits, ceil.fits))

ends_again : (n : ℕ) (floor ceil : ℤ) (rest : List ℕ) → n < 2 ^ 16 → FitsSigned w64 floor → FitsSigned w64 ceil
    → ends_at (ends_bytes n floor ceil ++ rest) ≡ Some (Limits (record { 0 = n }) floor ceil, rest)
unfolding ends_at
ends_again n floor ceil rest number low high =
    let all : Option (What × List ℕ) = Some (Limits (record { 0 = n }) floor ceil, rest) in
    ap ends_at (sym (ends_parts n floor ceil rest))
    ∙ resume field16 ends_number n (signed_bytes w64 floor ++ (signed_bytes w64 ceil ++ rest)) all number
    (resume signed64_field (ends_floor n) floor (signed_bytes w64 ceil ++ rest) all low
    (resume signed64_field (ends_ceil n floor) ceil rest all high refl))

-- ---- either

what_takes : (bytes : List ℕ) (what : What) (rest : List ℕ) → IsBytes bytes → what_at bytes ≡ Some (what, rest) → (bytes ≡ what_bytes what ++ rest) × FitsWhat what
unfolding what_at
what_takes [] what rest b e = absurd cc
what_takes (zero ∷ bytes) what rest b e = opened_takes bytes what rest (after 0 bytes b) e
what_takes (suc zero ∷ bytes) what rest b e = ends_takes bytes what rest (after 1 bytes b) e
what_takes (suc (suc c) ∷ bytes) what rest b e =
    let none : what_at (suc (suc c) ∷ bytes) ≡ None = simp (differs (suc (suc c)) 0 (omega arith), differs (suc (suc c)) 1 (omega arith)) refl in
    absurd (none-some (what, rest) (sym none ∙ e))

what_again : (what : What) (rest : List ℕ) → FitsWhat what → what_at (what_bytes what ++ rest) ≡ Some (what, rest)
unfolding what_at opened_at
what_again (Opened account) rest fits = resume account_field (λ a. Some (Opened a.0, a.1)) account rest (Some (Opened account, rest)) fits refl
what_again (Limits n floor ceil) rest fits = ends_again n.0 floor ceil rest fits.0 fits.1 fits.2

what_field : IsField what_bytes what_at FitsWhat
what_field = record { takes = what_takes; again = what_again }

-- the mark of a change in front
marked : (what : What) → change_bytes what ≡ 1 ∷ what_bytes what
marked (Opened account) = refl
marked (Limits n floor ceil) = refl

-- ---- the whole record

abbrev change_what : ℕ → What × List ℕ → Option What
change_what mark what = cond ((mark == 1) && (length what.1 == 0)) (Some what.0) None

abbrev change_mark : ℕ × List ℕ → Option What
change_mark mark = option_and_then (change_what mark.0) (what_at mark.1)

change_takes : (bytes : List ℕ) (what : What) → IsBytes bytes → change_read bytes ≡ Some what → FitsWhat what × (bytes ≡ change_bytes what)
unfolding change_read
change_takes bytes what b e =
    let mark = step byte_field change_mark bytes what b e in
    let read = step what_field (change_what mark.value) mark.rest what mark.bytes_on mark.on in
    let t = tested ((mark.value == 1) && (length read.rest == 0)) read.value what read.on in
    let tests = both (mark.value == 1) (length read.rest == 0) t.0 in
    let one : mark.value ≡ 1 = eqb-true mark.value 1 tests.0 in
    let ended : read.rest ≡ [] = nil_from_length read.rest (eqb-true (length read.rest) 0 tests.1) in
    let last : mark.rest ≡ what_bytes read.value = read.parts ∙ ap (λ (s : List ℕ). what_bytes read.value ++ s) ended ∙ append-nil (what_bytes read.value) in
    let whole : bytes ≡ 1 ∷ what_bytes read.value = mark.parts ∙ ap (λ (m : ℕ). m ∷ mark.rest) one ∙ ap (λ (s : List ℕ). 1 ∷ s) last in
    subst (λ (x : What). FitsWhat x × (bytes ≡ change_bytes x)) t.1 (read.fits, whole ∙ sym (marked read.value))

change_again : (what : What) → FitsWhat what → change_read (change_bytes what) ≡ Some what
unfolding change_read
change_again what fits =
    ap change_read (marked what ∙ ap (λ (s : List ℕ). 1 ∷ s) (sym (append-nil (what_bytes what))))
    ∙ resume what_field (change_what 1) what [] (Some what) fits refl

-- ---- what the reader answers

-- a change that was read, whose new account has the form of its columns
pub whole : (what : What) → FitsWhat what → IsInForm what → IsWhat what
whole (Opened account) fits form = record {
  formed = form;
  code = fits.code;
  balances = (fits.balances.floor, fits.balances.ceil, fits.balances.opening);
}
whole (Limits n floor ceil) fits form = fits

widths : (what : What) → IsWhat what → FitsWhat what
widths (Opened account) is = record {
  owner = is.formed.owner;
  code = is.code;
  balances = record { floor = is.balances.0; ceil = is.balances.1; opening = is.balances.2 };
}
widths (Limits n floor ceil) is = is

in_form : (what : What) → IsWhat what → IsInForm what
in_form (Opened account) is = is.formed
in_form (Limits n floor ceil) is = tt

pub is_found : (bytes : List ℕ) (what : What) → IsBytes bytes → change_read bytes ≡ Some what → IsInForm what → IsWhat what × (bytes ≡ change_bytes what)
is_found bytes what b read form =
    let t = change_takes bytes what b read in
    (whole what t.0 form, t.1)

-- what reading gives of the record of a change
pub read_again : (bytes : List ℕ) (what : What) → IsWhat what → bytes ≡ change_bytes what → change_read bytes ≡ Some what
read_again bytes what is e = ap change_read e ∙ change_again what (widths what is)

pub is_only : (bytes : List ℕ) (read what : What) → change_read bytes ≡ Some read → IsWhat what → bytes ≡ change_bytes what → read ≡ what
is_only bytes read what e is spelled = same_Some read what (sym e ∙ read_again bytes what is spelled)

-- a change that isn't in form has no record
pub none_out_of_form : {X : Type 0} (bytes : List ℕ) (read what : What) → change_read bytes ≡ Some read → (IsInForm read → ⊥) → IsWhat what → bytes ≡ change_bytes what → X
none_out_of_form bytes read what e out is spelled = absurd (out (subst IsInForm (sym (is_only bytes read what e is spelled)) (in_form what is)))

pub is_refused : (bytes : List ℕ) (fault : EntryFault) → FailsToRead fault (change_read bytes) → (what : What) → IsWhat what → bytes ≡ change_bytes what
    → IsGiven {X = What} what (Err fault)
is_refused bytes faults.NoEntry none what is e = none-some what (sym none ∙ read_again bytes what is e)
is_refused bytes faults.Memory none what is e = tt
