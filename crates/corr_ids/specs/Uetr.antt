-- Unique end-to-end transaction references: UUIDs of version 4 in lower case.
use Rattle.std.specs.Prelude.{ℕ, ◌≡◌, ◌==◌, ◌&&◌, ◌||◌, Bool, List, length, Option, Some, None, nat_le, if◌then◌else◌, codes}
use Rattle.std.specs.List.{list_all, zip}
use Rattle.std.specs.Char.{is_ascii_digit}
use Rattle.corr_ids.specs.declared.uetr.Uetr.{Uetr}

-- a hexadecimal digit in lower case
abbrev pub is_hex : ℕ → Bool
is_hex b = is_ascii_digit b || (nat_le 97 b && nat_le b 102)

-- 8, 9, a or b
abbrev pub is_variant : ℕ → Bool
is_variant b = (b == 56) || (b == 57) || (b == 97) || (b == 98)

-- the form of a reference
abbrev pub uetr_form : List ℕ
uetr_form = codes "xxxxxxxx-xxxx-4xxx-vxxx-xxxxxxxxxxxx"

-- whether a byte stands where the form has this mark: x for a hexadecimal digit, v for 8, 9, a or b, - and 4 for themselves
abbrev pub fits_mark : ℕ → ℕ → Bool
fits_mark mark b = if mark == 120 then is_hex b else if mark == 118 then is_variant b else b == mark

-- each of 36 bytes stands where the form has its mark
unfoldable pub is_uetr : List ℕ → Bool
is_uetr bs = (length bs == 36) && list_all (λ p. fits_mark p.1 p.0) (zip bs uetr_form)

-- the reference that is spelled so
abbrev pub uetr_of : List ℕ → Option Uetr
uetr_of bs = if is_uetr bs then Some (record { 0 = bs }) else None

-- a reference meets its grammar: it is read as itself
abbrev pub IsUetr : Uetr → Type 0
IsUetr u = uetr_of u.0 ≡ Some u
