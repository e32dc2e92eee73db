-- An MT202 COV written as fields.
use Rattle.std.specs.Prelude.{List, [], ◌∷◌, ◌++◌, map, Some, None}
use Rattle.fin_fields.specs.declared.field.Field.{Field}
use Rattle.fin_layout.specs.Segments.{joined}
use Rattle.fin_parties.specs.Writing.{party_field}
use Rattle.fin_contents.specs.declared.value.Value.{Value}
use Rattle.fin_contents.specs.Writing.{ccy_amount_field, line_field, lines_fields, some_field, value_field}
use Rattle.mt202cov.specs.declared.message.Mt202Cov.{Mt202Cov}

-- the value date and the amount
abbrev pub value_said : Mt202Cov → Value
value_said m = record { day = m.value; amount = m.amount }

-- the fields of each place from 20 to 32A
abbrev pub terms_fields : Mt202Cov → List (List Field)
terms_fields m =
    (line_field 20 None m.reference ∷ [])
    ∷ (line_field 21 None m.related ∷ [])
    ∷ map (line_field 13 (Some 67)) m.times
    ∷ (value_field (value_said m) ∷ [])
    ∷ []

-- those from 52a to 58a of sequence A
abbrev pub bank_fields : Mt202Cov → List (List Field)
bank_fields m =
    some_field (party_field 52) m.a52
    ∷ some_field (party_field 53) m.a53
    ∷ some_field (party_field 54) m.a54
    ∷ some_field (party_field 56) m.a56
    ∷ some_field (party_field 57) m.a57
    ∷ (party_field 58 m.a58 ∷ [])
    ∷ []

-- those of sequence A
abbrev pub sequence_a_fields : Mt202Cov → List (List Field)
sequence_a_fields m = terms_fields m ++ bank_fields m ++ lines_fields 72 None m.a_notes ∷ []

-- those of sequence B, 50a to 33B
abbrev pub sequence_b_fields : Mt202Cov → List (List Field)
sequence_b_fields m =
    (party_field 50 m.payer ∷ [])
    ∷ some_field (party_field 52) m.b52
    ∷ some_field (party_field 56) m.b56
    ∷ some_field (party_field 57) m.b57
    ∷ (party_field 59 m.payee ∷ [])
    ∷ lines_fields 70 None m.info
    ∷ lines_fields 72 None m.b_notes
    ∷ some_field (ccy_amount_field 33 (Some 66)) m.ordered
    ∷ []

-- the fields of each place
abbrev pub segments : Mt202Cov → List (List Field)
segments m = sequence_a_fields m ++ sequence_b_fields m

-- the fields of a cover, in the order of their places
unfoldable pub mt202cov_fields : Mt202Cov → List Field
mt202cov_fields m = joined (segments m)
