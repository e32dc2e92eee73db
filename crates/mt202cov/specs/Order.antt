-- The order of a cover's fields.
use Rattle.std.specs.Prelude.{ℕ, List, [], ◌∷◌, codes}
use Rattle.fin_layout.specs.declared.place.Place.{Place}
use Rattle.fin_layout.specs.Places.{any, bare, may, one}

-- the places of the fields, numbered from 0, those of sequence A and then, from 50a on, those of sequence B: `one` must be
-- taken, `may` may be, `any` may be more than once
abbrev pub order_202 : List Place
order_202 =
    one 20 bare
    ∷ one 21 bare
    ∷ any 13 (codes "CCCC")
    ∷ one 32 (codes "AAAA")
    ∷ may 52 (codes "ADDD")
    ∷ may 53 (codes "ABDD")
    ∷ may 54 (codes "ABDD")
    ∷ may 56 (codes "ADDD")
    ∷ may 57 (codes "ABDD")
    ∷ one 58 (codes "ADDD")
    ∷ may 72 bare
    ∷ one 50 (codes "AFKK")
    ∷ may 52 (codes "ADDD")
    ∷ may 56 (codes "ACDD")
    ∷ may 57 (codes "ABCD")
    ∷ one 59 (codes " AFF")
    ∷ may 70 bare
    ∷ may 72 bare
    ∷ may 33 (codes "BBBB")
    ∷ []

-- 20
abbrev pub at_reference : ℕ
at_reference = 0

-- 21
abbrev pub at_related : ℕ
at_related = 1

-- 13C
abbrev pub at_times : ℕ
at_times = 2

-- 32A
abbrev pub at_value : ℕ
at_value = 3

-- 52a of sequence A
abbrev pub at_a_ordering : ℕ
at_a_ordering = 4

-- 53a
abbrev pub at_a_senders_bank : ℕ
at_a_senders_bank = 5

-- 54a
abbrev pub at_a_receivers_bank : ℕ
at_a_receivers_bank = 6

-- 56a of sequence A
abbrev pub at_a_intermediary : ℕ
at_a_intermediary = 7

-- 57a of sequence A
abbrev pub at_a_account_bank : ℕ
at_a_account_bank = 8

-- 58a
abbrev pub at_beneficiary : ℕ
at_beneficiary = 9

-- 72 of sequence A
abbrev pub at_a_notes : ℕ
at_a_notes = 10

-- 50a
abbrev pub at_payer : ℕ
at_payer = 11

-- 52a of sequence B
abbrev pub at_b_ordering : ℕ
at_b_ordering = 12

-- 56a of sequence B
abbrev pub at_b_intermediary : ℕ
at_b_intermediary = 13

-- 57a of sequence B
abbrev pub at_b_account_bank : ℕ
at_b_account_bank = 14

-- 59a
abbrev pub at_payee : ℕ
at_payee = 15

-- 70
abbrev pub at_info : ℕ
at_info = 16

-- 72 of sequence B
abbrev pub at_b_notes : ℕ
at_b_notes = 17

-- 33B
abbrev pub at_ordered : ℕ
at_ordered = 18
