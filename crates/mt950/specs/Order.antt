-- The order of an MT950's fields.
use Rattle.std.specs.Prelude.{ℕ, List, [], ◌∷◌, codes}
use Rattle.fin_layout.specs.declared.place.Place.{Place}
use Rattle.fin_layout.specs.Places.{any, bare, may, one}

-- the places of the fields, numbered from 0: `one` must be taken, `may` may be, `any` may be more than once
abbrev pub order_950 : List Place
order_950 =
    one 20 bare
    ∷ one 25 bare
    ∷ one 28 (codes "CCCC")
    ∷ one 60 (codes "FMMM")
    ∷ any 61 bare
    ∷ one 62 (codes "FMMM")
    ∷ may 64 bare
    ∷ []

-- 20
abbrev pub at_reference : ℕ
at_reference = 0

-- 25
abbrev pub at_account : ℕ
at_account = 1

-- 28C
abbrev pub at_number : ℕ
at_number = 2

-- 60a
abbrev pub at_opening : ℕ
at_opening = 3

-- 61
abbrev pub at_lines : ℕ
at_lines = 4

-- 62a
abbrev pub at_closing : ℕ
at_closing = 5

-- 64
abbrev pub at_available : ℕ
at_available = 6
