-- The MT103 that is sent on.
use Rattle.std.specs.Prelude.{ℕ, ◌&&◌, ◌||◌, not, Bool, true, false, List, [], ◌∷◌, ◌++◌, take, Option, Some, None, slice_get, codes}
use Rattle.std.specs.Option.{option_map_or}
use Rattle.std.specs.Str.{bytes_eq}
use Rattle.corr_ids.specs.declared.bic.Bic.{Bic}
use Rattle.corr_money.specs.declared.amount.Amount.{Amount}
use Rattle.fin_fields.specs.declared.field.Field.{Field}
use Rattle.fin_layout.specs.Segments.{joined}
use Rattle.fin_contents.specs.declared.value.Value.{Value}
use Rattle.fin_contents.specs.Writing.{ccy_amount_field, line_field, some_field, value_field}
use Rattle.day_model.specs.declared.pay.Skip.{Skip}
use Rattle.day_model.specs.declared.pay.Skip.TheVariants.{Keep, Mid, Both}
use Rattle.advices.specs.declared.received.Received.{Received}
use Rattle.advices.specs.Fields.{bank_field, copied, copied_all, is_named}
use Rattle.advices.specs.Received.{ordering}

-- 56a, where it is passed on
abbrev pub intermediary : Skip → List Field → List Field
intermediary Keep fs = copied 56 (codes "ACD") fs
intermediary Mid fs = []
intermediary Both fs = []

-- 57a, where it is passed on
abbrev pub account_bank : Skip → List Field → List Field
account_bank Keep fs = copied 57 (codes "ABCD") fs
account_bank Mid fs = copied 57 (codes "ABCD") fs
account_bank Both fs = []

-- a field is there
abbrev pub is_there : List Field → Bool
is_there [] = false
is_there (f ∷ fs) = true

-- an instruction of this code: the first four characters of 23E
abbrev pub has_code : List ℕ → Field → Bool
has_code code f = option_map_or (λ line. bytes_eq (take 4 line) code) (slice_get f.lines 0) false

-- what asks to tell the bank of 56a
abbrev pub tells_intermediary : Field → Bool
tells_intermediary f = has_code (codes "TELI") f || has_code (codes "PHOI") f

-- what asks to tell the bank of 57a
abbrev pub tells_account_bank : Field → Bool
tells_account_bank f = has_code (codes "TELE") f || has_code (codes "PHON") f

-- 23E, unless it asks to tell a bank that isn't named
abbrev pub is_passed_on : Bool → Bool → Field → Bool
is_passed_on has_56 has_57 f = is_named 23 (codes "E") f && (has_56 || not (tells_intermediary f)) && (has_57 || not (tells_account_bank f))

-- the instructions that are passed on
abbrev pub passed_instructions : Skip → List Field → List Field
passed_instructions skip fs = copied_all (is_passed_on (is_there (intermediary skip fs)) (is_there (account_bank skip fs))) fs

-- a field, and an amount in place of none
abbrev pub or_amount : Amount → List Field → List Field
or_amount amount [] = ccy_amount_field 33 (Some 66) amount ∷ []
or_amount amount (f ∷ fs) = f ∷ fs

-- the currency and the amount that were ordered: 33B, and what was ordered where there is none
abbrev pub ordered_amount : Amount → List Field → List Field
ordered_amount amount fs = or_amount amount (copied 33 (codes "B") fs)

-- from 20 to 36
abbrev pub term_fields : List Field → List ℕ → Value → Amount → Skip → List (List Field)
term_fields fs reference value ordered skip =
    (line_field 20 None reference ∷ [])
    ∷ copied 23 (codes "B") fs
    ∷ passed_instructions skip fs
    ∷ copied 26 (codes "T") fs
    ∷ (value_field value ∷ [])
    ∷ ordered_amount ordered fs
    ∷ copied 36 (codes " ") fs
    ∷ []

-- from 50a to 59a; 53A names the bank that covers it
abbrev pub party_fields : Received → Skip → Option Bic → List (List Field)
party_fields r skip via =
    copied 50 (codes "AFK") r.fields
    ∷ ordering r
    ∷ some_field (bank_field 53) via
    ∷ intermediary skip r.fields
    ∷ account_bank skip r.fields
    ∷ copied 59 (codes " AF") r.fields
    ∷ []

-- what was taken off the amount: each 71F as it came, then our own charge
abbrev pub taken_fields : Option Amount → List Field → List Field
taken_fields charge fs = copied_all (is_named 71 (codes "F")) fs ++ some_field (ccy_amount_field 71 (Some 70)) charge

-- from 70 to 77B
abbrev pub detail_fields : Option Amount → List Field → List (List Field)
detail_fields charge fs =
    copied 70 (codes " ") fs
    ∷ copied 71 (codes "A") fs
    ∷ taken_fields charge fs
    ∷ copied 71 (codes "G") fs
    ∷ copied 72 (codes " ") fs
    ∷ copied 77 (codes "B") fs
    ∷ []

-- the fields of a transfer of this reference, value and ordered amount, of which a charge is taken
unfoldable pub transfer_fields : Received → List ℕ → Value → Amount → Option Amount → Skip → Option Bic → List Field
transfer_fields r reference value ordered charge skip via =
    joined (term_fields r.fields reference value ordered skip ++ party_fields r skip via ++ detail_fields charge r.fields)
