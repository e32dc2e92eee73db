-- The MT900 and the MT910 of a booked entry.
use Rattle.std.specs.Prelude.{ℕ, List, [], ◌∷◌, None, codes}
use Rattle.fin_fields.specs.declared.field.Field.{Field}
use Rattle.fin_layout.specs.Segments.{joined}
use Rattle.fin_contents.specs.declared.value.Value.{Value}
use Rattle.fin_contents.specs.Writing.{line_field, value_field}
use Rattle.advices.specs.declared.received.Received.{Received}
use Rattle.advices.specs.Fields.{copied, copied_as}
use Rattle.advices.specs.Received.{ordering}

-- the fields of a confirmation of a debit: 21 is the received message's 20
unfoldable pub debit_fields : Received → List ℕ → List ℕ → Value → List Field
debit_fields r reference account value =
    joined (
    (line_field 20 None reference ∷ [])
    ∷ copied_as 20 21 r.fields
    ∷ (line_field 25 None account ∷ [])
    ∷ (value_field value ∷ [])
    ∷ []
    )

-- the fields of a confirmation of a credit: 21 and 52a are the received message's
unfoldable pub credit_fields : Received → List ℕ → List ℕ → Value → List Field
credit_fields r reference account value =
    joined (
    (line_field 20 None reference ∷ [])
    ∷ copied 21 (codes " ") r.fields
    ∷ (line_field 25 None account ∷ [])
    ∷ (value_field value ∷ [])
    ∷ ordering r
    ∷ []
    )
