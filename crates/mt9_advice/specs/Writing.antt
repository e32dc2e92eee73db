-- Advices written as fields.
use Rattle.std.specs.Prelude.{ℕ, List, [], ◌∷◌, ◌++◌, Option, Some, None}
use Rattle.fin_fields.specs.declared.field.Field.{Field}
use Rattle.fin_layout.specs.Segments.{joined}
use Rattle.fin_parties.specs.Writing.{party_field}
use Rattle.fin_contents.specs.declared.value.Value.{Value}
use Rattle.fin_contents.specs.Writing.{line_field, lines_fields, some_field, value_field}
use Rattle.mt9_advice.specs.declared.credit.Mt910.{Mt910}
use Rattle.mt9_advice.specs.declared.debit.Mt900.{Mt900}

-- the field of each place from 20 to 32A
abbrev pub booking_fields : List ℕ → List ℕ → List ℕ → Option (List ℕ) → Value → List (List Field)
booking_fields reference related account at value =
    (line_field 20 None reference ∷ [])
    ∷ (line_field 21 None related ∷ [])
    ∷ (line_field 25 None account ∷ [])
    ∷ some_field (line_field 13 (Some 68)) at
    ∷ (value_field value ∷ [])
    ∷ []

-- the fields of each place of an MT900
abbrev pub segments_900 : Mt900 → List (List Field)
segments_900 m =
    booking_fields m.reference m.related m.account m.at (record { day = m.value; amount = m.amount })
    ++ some_field (party_field 52) m.p52
    ∷ lines_fields 72 None m.notes
    ∷ []

-- the fields of an MT900, in the order of their places
unfoldable pub fields_900 : Mt900 → List Field
fields_900 m = joined (segments_900 m)

-- the fields of each place of an MT910
abbrev pub segments_910 : Mt910 → List (List Field)
segments_910 m =
    booking_fields m.reference m.related m.account m.at (record { day = m.value; amount = m.amount })
    ++ some_field (party_field 50) m.payer
    ∷ some_field (party_field 52) m.p52
    ∷ some_field (party_field 56) m.p56
    ∷ lines_fields 72 None m.notes
    ∷ []

-- the fields of an MT910, in the order of their places
unfoldable pub fields_910 : Mt910 → List Field
fields_910 m = joined (segments_910 m)
