-- An MT103 written as fields.
use Rattle.std.specs.Prelude.{ℕ, List, [], ◌∷◌, ◌++◌, map, Option, Some, None}
use Rattle.fin_fields.specs.declared.field.Field.{Field}
use Rattle.fin_layout.specs.Segments.{joined}
use Rattle.fin_parties.specs.Writing.{party_field}
use Rattle.fin_contents.specs.declared.value.Value.{Value}
use Rattle.fin_contents.specs.Writing.{ccy_amount_field, line_field, lines_fields, some_field, value_field}
use Rattle.mt103.specs.declared.instruction.Instr.{Instr}
use Rattle.mt103.specs.declared.message.Mt103.{Mt103}

-- what follows a code: nothing, or `/` and a text
abbrev pub text_after : Option (List ℕ) → List ℕ
text_after None = []
text_after (Some text) = 47 ∷ text

-- an instruction's field
abbrev pub instr_field : Instr → Field
instr_field i = line_field 23 (Some 69) (i.code ++ text_after i.text)

-- the value date and the amount
abbrev pub value_said : Mt103 → Value
value_said m = record { day = m.value; amount = m.amount }

-- the fields of each place from 20 to 26T
abbrev pub head_segments : Mt103 → List (List Field)
head_segments m =
    (line_field 20 None m.reference ∷ [])
    ∷ map (line_field 13 (Some 67)) m.times
    ∷ (line_field 23 (Some 66) m.op ∷ [])
    ∷ map instr_field m.instrs
    ∷ some_field (line_field 26 (Some 84)) m.kind
    ∷ []

-- those from 32A to 36
abbrev pub money_fields : Mt103 → List (List Field)
money_fields m =
    (value_field (value_said m) ∷ [])
    ∷ some_field (ccy_amount_field 33 (Some 66)) m.ordered
    ∷ some_field (line_field 36 None) m.rate
    ∷ []

-- those from 50a to 59a
abbrev pub party_segments : Mt103 → List (List Field)
party_segments m =
    (party_field 50 m.payer ∷ [])
    ∷ some_field (party_field 52) m.p52
    ∷ some_field (party_field 53) m.p53
    ∷ some_field (party_field 54) m.p54
    ∷ some_field (party_field 55) m.p55
    ∷ some_field (party_field 56) m.p56
    ∷ some_field (party_field 57) m.p57
    ∷ (party_field 59 m.payee ∷ [])
    ∷ []

-- those from 70 to 77B
abbrev pub detail_segments : Mt103 → List (List Field)
detail_segments m =
    lines_fields 70 None m.info
    ∷ (line_field 71 (Some 65) m.charge ∷ [])
    ∷ map (ccy_amount_field 71 (Some 70)) m.taken
    ∷ some_field (ccy_amount_field 71 (Some 71)) m.given
    ∷ lines_fields 72 None m.notes
    ∷ lines_fields 77 (Some 66) m.regulatory
    ∷ []

-- the fields of each place
abbrev pub segments : Mt103 → List (List Field)
segments m = head_segments m ++ money_fields m ++ party_segments m ++ detail_segments m

-- the fields of a transfer, in the order of their places
unfoldable pub mt103_fields : Mt103 → List Field
mt103_fields m = joined (segments m)
