-- The order of an MT103's fields.
use Rattle.std.specs.Prelude.{ℕ, List, [], ◌∷◌, codes}
use Rattle.fin_layout.specs.declared.place.Place.{Place}
use Rattle.fin_layout.specs.Places.{any, bare, may, one}

-- the places of the fields, numbered from 0: `one` must be taken, `may` may be, `any` may be more than once
abbrev pub order_103 : List Place
order_103 =
    one 20 bare
    ∷ any 13 (codes "CCCC")
    ∷ one 23 (codes "BBBB")
    ∷ any 23 (codes "EEEE")
    ∷ may 26 (codes "TTTT")
    ∷ one 32 (codes "AAAA")
    ∷ may 33 (codes "BBBB")
    ∷ may 36 bare
    ∷ one 50 (codes "AFKK")
    ∷ may 52 (codes "ADDD")
    ∷ may 53 (codes "ABDD")
    ∷ may 54 (codes "ABDD")
    ∷ may 55 (codes "ABDD")
    ∷ may 56 (codes "ACDD")
    ∷ may 57 (codes "ABCD")
    ∷ one 59 (codes " AFF")
    ∷ may 70 bare
    ∷ one 71 (codes "AAAA")
    ∷ any 71 (codes "FFFF")
    ∷ may 71 (codes "GGGG")
    ∷ may 72 bare
    ∷ may 77 (codes "BBBB")
    ∷ []

-- 20
abbrev pub at_reference : ℕ
at_reference = 0

-- 13C
abbrev pub at_times : ℕ
at_times = 1

-- 23B
abbrev pub at_operation : ℕ
at_operation = 2

-- 23E
abbrev pub at_instructions : ℕ
at_instructions = 3

-- 26T
abbrev pub at_kind : ℕ
at_kind = 4

-- 32A
abbrev pub at_value : ℕ
at_value = 5

-- 33B
abbrev pub at_ordered : ℕ
at_ordered = 6

-- 36
abbrev pub at_rate : ℕ
at_rate = 7

-- 50a
abbrev pub at_payer : ℕ
at_payer = 8

-- 52a
abbrev pub at_ordering : ℕ
at_ordering = 9

-- 53a
abbrev pub at_senders_bank : ℕ
at_senders_bank = 10

-- 54a
abbrev pub at_receivers_bank : ℕ
at_receivers_bank = 11

-- 55a
abbrev pub at_third_bank : ℕ
at_third_bank = 12

-- 56a
abbrev pub at_intermediary : ℕ
at_intermediary = 13

-- 57a
abbrev pub at_account_bank : ℕ
at_account_bank = 14

-- 59a
abbrev pub at_payee : ℕ
at_payee = 15

-- 70
abbrev pub at_info : ℕ
at_info = 16

-- 71A
abbrev pub at_charge : ℕ
at_charge = 17

-- 71F
abbrev pub at_taken : ℕ
at_taken = 18

-- 71G
abbrev pub at_given : ℕ
at_given = 19

-- 72
abbrev pub at_notes : ℕ
at_notes = 20

-- 77B
abbrev pub at_regulatory : ℕ
at_regulatory = 21
