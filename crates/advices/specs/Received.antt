-- What a received message gives to those that are sent on.
use Rattle.std.specs.Prelude.{ℕ, List, [], ◌∷◌, length, take, drop, position, Option, Some, None, Result, Ok, Err, is_some, option_map, option_and_then, unwrap_or, codes, find, if◌then◌else◌, Bool}
use Rattle.corr_ids.specs.Address.{bank_of}
use Rattle.corr_ids.specs.Mir.{sender_of}
use Rattle.corr_ids.specs.declared.bic.Bic.{Bic}
use Rattle.corr_money.specs.Amounts.{amount_of}
use Rattle.corr_money.specs.declared.amount.Amount.{Amount}
use Rattle.corr_money.specs.declared.amount.Minor.{Minor}
use Rattle.corr_money.specs.declared.fault.AmountFault.{AmountFault}
use Rattle.fin_fields.specs.Faults.{field_fault}
use Rattle.fin_fields.specs.Fields.{fields_of}
use Rattle.fin_fields.specs.declared.field.Field.{Field}
use Rattle.fin_contents.specs.Money.{is_dated_amount}
use Rattle.fin_contents.specs.Plain.{one_line}
use Rattle.day_model.specs.declared.pay.Mt.{Mt}
use Rattle.day_model.specs.declared.pay.Mt.TheVariants.{Transfer, Cover}
use Rattle.day_model.specs.declared.pay.Pay.{Pay}
use Rattle.advices.specs.declared.received.Received.{Received}
use Rattle.advices.specs.Fields.{bank_field, copied, is_named}

-- the fields of a text; none where it can't be cut into fields
abbrev pub fields_in : List ℕ → List Field
fields_in text = if is_some (field_fault text) then [] else fields_of text

-- the message that a pay came from: its type, its sender, its fields
abbrev pub received_of : Pay → Received
received_of pay = record { mt = pay.mt; sender = bank_of (sender_of pay.mir); fields = fields_in pay.text }

-- 50a: a cover's second sequence begins with it
abbrev pub is_payer : Field → Bool
is_payer f = is_named 50 (codes "AFK") f

-- how many fields stand before the first 50a
abbrev pub first_fields : List Field → ℕ
first_fields fs = unwrap_or (position is_payer fs) (length fs)

-- the first sequence of a cover
abbrev pub sequence_a : List Field → List Field
sequence_a fs = take (first_fields fs) fs

-- the second one, which begins with the first 50a
abbrev pub sequence_b : List Field → List Field
sequence_b fs = drop (first_fields fs) fs

-- the fields among which 52a is looked for: all of a transfer, the first sequence of a cover
abbrev pub fields_for_52 : Mt → List Field → List Field
fields_for_52 Transfer fs = fs
fields_for_52 Cover fs = sequence_a fs

-- a field, and a bank by its BIC in place of none
abbrev pub or_bank : Bic → List Field → List Field
or_bank bic [] = bank_field 52 bic ∷ []
or_bank bic (f ∷ fs) = f ∷ fs

-- the ordering institution: 52a, and the sender's BIC where there is none
abbrev pub ordering : Received → List Field
ordering r = or_bank r.sender (copied 52 (codes "AD") (fields_for_52 r.mt r.fields))

-- an amount, its fault as none
abbrev pub minor_if : Result Minor AmountFault → Option Minor
minor_if (Ok minor) = Some minor
minor_if (Err fault) = None

-- the currency and the amount of a line of 32A's form, where the amount reads with so many decimals
abbrev pub amount_if : ℕ → List ℕ → Option Amount
amount_if decimals line =
    if is_dated_amount line
    then option_map (λ minor. record { ccy = record { 0 = take 3 (drop 6 line) }; minor = minor; decimals = decimals }) (minor_if (amount_of decimals (drop 9 line)))
    else None

-- those of the first 32A of one line
abbrev pub amount_in : ℕ → List Field → Option Amount
amount_in decimals fs = option_and_then (λ f. option_and_then (amount_if decimals) (one_line f)) (find (is_named 32 (codes "A")) fs)

-- what was ordered: the currency and the amount of 32A, and where it has none that of the account
abbrev pub ordered_of : Received → Amount → Amount
ordered_of r own = unwrap_or (amount_in own.decimals r.fields) own
