-- Where the first fault of an MT940's fields stands.
use Rattle.std.specs.Prelude.{ℕ, zero, suc, ◌+◌, ◌&&◌, Bool, false, List, [], ◌∷◌, nat_le, take, Option, Some, None, if◌then◌else◌}
use Rattle.std.specs.List.{count_by}
use Rattle.std.specs.Str.{bytes_eq}
use Rattle.corr_text.specs.Codes.{code}
use Rattle.corr_text.specs.declared.fault.Fault.{Fault}
use Rattle.fin_fields.specs.Faults.{tag_of}
use Rattle.fin_fields.specs.declared.field.Field.{Field}
use Rattle.fin_layout.specs.Naming.{fault_at}
use Rattle.fin_layout.specs.Tests.{lacking}
use Rattle.mt950.specs.Order.{order_950}
use Rattle.mt940_out.specs.Order.{fields_beside, is_line, is_note}
use Rattle.mt940_out.specs.Page.{is_note_text, misplaced_940}

-- P22, then P23
abbrev pub structure_940 : List Field → List (Option Fault)
structure_940 fs = misplaced_940 fs ∷ lacking order_950 (fields_beside fs) ∷ []

-- the place of the next field, or one behind it
abbrev pub place_past : (ℕ → ℕ) → ℕ → ℕ
place_past later zero = 0
place_past later (suc n) = suc (later n)

-- where the field stands that so many come before, each 86 behind a 61 not counted
abbrev pub place_beside : Bool → List Field → ℕ → ℕ
place_beside behind [] n = 0
place_beside behind (f ∷ fs) n = if behind && is_note f then suc (place_beside false fs n) else place_past (place_beside (is_line f) fs) n

-- where the first 86 behind a 61 stands that has another form, the first field being number i
abbrev pub first_bad_note : ℕ → Bool → List Field → Option ℕ
first_bad_note i behind [] = None
first_bad_note i behind (f ∷ fs) =
    if behind && is_note f then (if is_note_text f.lines then first_bad_note (i + 1) false fs else Some i)
    else first_bad_note (i + 1) (is_line f) fs

-- a field has this tag and letter
abbrev pub has_tag : List ℕ → Field → Bool
has_tag tag f = bytes_eq (tag_of f) tag

-- a fault is that of one of these fields, which begin a text: so many have its tag
abbrev pub is_ahead : List Field → Fault → Bool
is_ahead fs fault = nat_le fault.nth (count_by (has_tag fault.tag) fs)

-- the fault that is told where the first 86 of another form is number n: this one, where it is that of a field ahead of it, else P24
abbrev pub earlier_fault : List Field → ℕ → Fault → Fault
earlier_fault fs n fault = if is_ahead (take n fs) fault then fault else fault_at fs n (code "P24")
