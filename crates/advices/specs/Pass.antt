-- The MT202 COV that is passed on.
use Rattle.std.specs.Prelude.{ℕ, List, [], ◌∷◌, ◌++◌, None, codes}
use Rattle.fin_fields.specs.declared.field.Field.{Field}
use Rattle.fin_layout.specs.Segments.{joined}
use Rattle.fin_contents.specs.declared.value.Value.{Value}
use Rattle.fin_contents.specs.Writing.{line_field, value_field}
use Rattle.day_model.specs.declared.pay.Skip.{Skip}
use Rattle.advices.specs.declared.received.Received.{Received}
use Rattle.advices.specs.Fields.{copied}
use Rattle.advices.specs.Received.{ordering, sequence_a, sequence_b}
use Rattle.advices.specs.Transfer.{account_bank, intermediary}

-- the first sequence, of the received one's fields
abbrev pub passed_fields : Received → List Field → List ℕ → Value → Skip → List (List Field)
passed_fields r first reference value skip =
    (line_field 20 None reference ∷ [])
    ∷ copied 21 (codes " ") first
    ∷ (value_field value ∷ [])
    ∷ ordering r
    ∷ intermediary skip first
    ∷ account_bank skip first
    ∷ copied 58 (codes "AD") first
    ∷ copied 72 (codes " ") first
    ∷ []

-- the fields of a cover that is passed on: the second sequence as it came
unfoldable pub pass_fields : Received → List ℕ → Value → Skip → List Field
pass_fields r reference value skip = joined (passed_fields r (sequence_a r.fields) reference value skip) ++ sequence_b r.fields
