-- The MT202 COV that covers a transfer.
use Rattle.std.specs.Prelude.{ℕ, List, [], ◌∷◌, ◌++◌, None, codes}
use Rattle.corr_ids.specs.declared.bic.Bic.{Bic}
use Rattle.corr_money.specs.declared.amount.Amount.{Amount}
use Rattle.fin_fields.specs.declared.field.Field.{Field}
use Rattle.fin_layout.specs.Segments.{joined}
use Rattle.fin_contents.specs.declared.value.Value.{Value}
use Rattle.fin_contents.specs.Writing.{line_field, value_field}
use Rattle.day_model.specs.declared.pay.Skip.{Skip}
use Rattle.advices.specs.declared.received.Received.{Received}
use Rattle.advices.specs.Fields.{bank_field, copied}
use Rattle.advices.specs.Received.{ordering}
use Rattle.advices.specs.Transfer.{account_bank, intermediary, ordered_amount}

-- the first sequence: which transfer it covers, how much, for which bank
abbrev pub covering_fields : List ℕ → List ℕ → Value → Bic → List (List Field)
covering_fields reference related value end =
    (line_field 20 None reference ∷ [])
    ∷ (line_field 21 None related ∷ [])
    ∷ (value_field value ∷ [])
    ∷ (bank_field 58 end ∷ [])
    ∷ []

-- the second sequence: the customers of the transfer, as it has them
abbrev pub covered_fields : Received → Amount → Skip → List (List Field)
covered_fields r ordered skip =
    copied 50 (codes "AFK") r.fields
    ∷ ordering r
    ∷ intermediary skip r.fields
    ∷ account_bank skip r.fields
    ∷ copied 59 (codes " AF") r.fields
    ∷ copied 70 (codes " ") r.fields
    ∷ copied 72 (codes " ") r.fields
    ∷ ordered_amount ordered r.fields
    ∷ []

-- the fields of a cover of the transfer `related`
unfoldable pub cover_fields : Received → List ℕ → List ℕ → Value → Amount → Bic → Skip → List Field
cover_fields r reference related value ordered end skip =
    joined (covering_fields reference related value end ++ covered_fields r ordered skip)
