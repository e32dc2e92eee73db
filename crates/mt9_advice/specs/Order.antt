-- The orders of the fields of an MT900 and an MT910.
use Rattle.std.specs.Prelude.{ℕ, List, [], ◌∷◌, codes}
use Rattle.fin_layout.specs.declared.place.Place.{Place}
use Rattle.fin_layout.specs.Places.{bare, may, one}

-- the places of an MT900's fields, numbered from 0: `one` must be taken, `may` may be
abbrev pub order_900 : List Place
order_900 =
    one 20 bare
    ∷ one 21 bare
    ∷ one 25 bare
    ∷ may 13 (codes "DDDD")
    ∷ one 32 (codes "AAAA")
    ∷ may 52 (codes "ADDD")
    ∷ may 72 bare
    ∷ []

-- those of an MT910's
abbrev pub order_910 : List Place
order_910 =
    one 20 bare
    ∷ one 21 bare
    ∷ one 25 bare
    ∷ may 13 (codes "DDDD")
    ∷ one 32 (codes "AAAA")
    ∷ may 50 (codes "AFKK")
    ∷ may 52 (codes "ADDD")
    ∷ may 56 (codes "ADDD")
    ∷ may 72 bare
    ∷ []

-- ---- places in both orders

-- 20
abbrev pub at_reference : ℕ
at_reference = 0

-- 21
abbrev pub at_related : ℕ
at_related = 1

-- 25
abbrev pub at_account : ℕ
at_account = 2

-- 13D
abbrev pub at_stamp : ℕ
at_stamp = 3

-- 32A
abbrev pub at_value : ℕ
at_value = 4

-- ---- places in the order of an MT900

-- 52a
abbrev pub at_ordering_900 : ℕ
at_ordering_900 = 5

-- 72
abbrev pub at_notes_900 : ℕ
at_notes_900 = 6

-- ---- places in the order of an MT910

-- 50a
abbrev pub at_payer : ℕ
at_payer = 5

-- 52a
abbrev pub at_ordering_910 : ℕ
at_ordering_910 = 6

-- 56a
abbrev pub at_intermediary : ℕ
at_intermediary = 7

-- 72
abbrev pub at_notes_910 : ℕ
at_notes_910 = 8
