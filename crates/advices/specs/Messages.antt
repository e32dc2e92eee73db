-- The messages that are sent of an entry.
use Rattle.std.specs.Prelude.{ℕ, ◌+◌, List, [], ◌∷◌, Option, Some, None, codes, if◌then◌else◌}
use Rattle.std.specs.Option.{option_map_or}
use Rattle.corr_ids.specs.declared.bic.Bic.{Bic}
use Rattle.corr_ids.specs.declared.uetr.Uetr.{Uetr}
use Rattle.corr_money.specs.declared.amount.Amount.{Amount}
use Rattle.fin_blocks.specs.Sending.{sent_text}
use Rattle.fin_fields.specs.Writing.{fields_text}
use Rattle.fin_fields.specs.declared.field.Field.{Field}
use Rattle.day_model.specs.Balance.{is_booked}
use Rattle.day_model.specs.Chart.{Chart}
use Rattle.day_model.specs.declared.account.Account.{Account}
use Rattle.day_model.specs.declared.entry.Entry.{Entry}
use Rattle.day_model.specs.declared.pay.Order.{Order}
use Rattle.day_model.specs.declared.pay.Order.TheVariants.{Transfer, Cover, Pass, Debit, Credit}
use Rattle.day_model.specs.declared.pay.Pay.{Pay}
use Rattle.advices.specs.Advice.{credit_fields, debit_fields}
use Rattle.advices.specs.Cover.{cover_fields}
use Rattle.advices.specs.Fields.{ours}
use Rattle.advices.specs.Legs.{charge_of, debited_amount, leg_account, leg_amount, value_of_pay}
use Rattle.advices.specs.Pass.{pass_fields}
use Rattle.advices.specs.Received.{ordered_of, received_of}
use Rattle.advices.specs.Transfer.{transfer_fields}

-- the type of an order's message
abbrev pub order_type : Order → ℕ
order_type (Transfer to skip via) = 103
order_type (Cover to end skip) = 202
order_type (Pass to skip) = 202
order_type (Debit to leg) = 900
order_type (Credit to leg) = 910

-- the bank that it goes to
abbrev pub receiver_of : Order → Bic
receiver_of (Transfer to skip via) = to
receiver_of (Cover to end skip) = to
receiver_of (Pass to skip) = to
receiver_of (Debit to leg) = to
receiver_of (Credit to leg) = to

-- the UETR as subblock 121
abbrev pub uetr_block : Option Uetr → List (ℕ × List ℕ)
uetr_block None = []
uetr_block (Some uetr) = (121, uetr.0) ∷ []

-- block 3: a transfer has the UETR, and a cover the validation flag before it
abbrev pub order_user : Option Uetr → Order → List (ℕ × List ℕ)
order_user uetr (Transfer to skip via) = uetr_block uetr
order_user uetr (Cover to end skip) = (119, codes "COV") ∷ uetr_block uetr
order_user uetr (Pass to skip) = (119, codes "COV") ∷ uetr_block uetr
order_user uetr (Debit to leg) = []
order_user uetr (Credit to leg) = []

-- fields that need the amount of a leg
abbrev pub with_amount : Chart → Pay → ℕ → (Amount → List Field) → List Field
with_amount chart pay n write = option_map_or write (leg_amount chart pay n) []

-- those that need its account too
abbrev pub with_account : Chart → Pay → ℕ → (Account → List Field) → List Field
with_account chart pay n write = option_map_or write (leg_account chart pay n) []

-- those that need what is debited
abbrev pub with_debited : Chart → Pay → (Amount → List Field) → List Field
with_debited chart pay write = option_map_or write (debited_amount chart pay) []

-- the fields of the k-th order, from 1, of the pay at a place. The second leg is the credit whose amount is sent on; where the
-- received 32A has no amount, what is debited was ordered
abbrev pub order_fields : Chart → Pay → ℕ → ℕ → Order → List Field
order_fields chart pay place k (Transfer to skip via) =
    with_debited chart pay (λ own. with_amount chart pay 2 (λ sent.
    transfer_fields (received_of pay) (ours place k) (value_of_pay pay sent) (ordered_of (received_of pay) own) (charge_of chart pay) skip via))
order_fields chart pay place k (Cover to end skip) =
    with_debited chart pay (λ own. with_amount chart pay 2 (λ sent.
    cover_fields (received_of pay) (ours place k) (ours place 1) (value_of_pay pay sent) (ordered_of (received_of pay) own) end skip))
order_fields chart pay place k (Pass to skip) =
    with_amount chart pay 2 (λ sent. pass_fields (received_of pay) (ours place k) (value_of_pay pay sent) skip)
order_fields chart pay place k (Debit to leg) =
    with_account chart pay leg (λ account. with_amount chart pay leg (λ moved.
    debit_fields (received_of pay) (ours place k) account.id (value_of_pay pay moved)))
order_fields chart pay place k (Credit to leg) =
    with_account chart pay leg (λ account. with_amount chart pay leg (λ moved.
    credit_fields (received_of pay) (ours place k) account.id (value_of_pay pay moved)))

-- the message of the k-th order
abbrev pub order_message : Chart → Pay → ℕ → ℕ → Order → List ℕ
order_message chart pay place k order =
    sent_text chart.home (order_type order) (receiver_of order) (order_user pay.uetr order) (fields_text (order_fields chart pay place k order))

-- those of orders in turn, the first of which is the k-th
abbrev pub messages_from : Chart → Pay → ℕ → ℕ → List Order → List (List ℕ)
messages_from chart pay place k [] = []
messages_from chart pay place k (order ∷ orders) = order_message chart pay place k order ∷ messages_from chart pay place (k + 1) orders

-- the messages of the entry at a place: those of a booked one in the order of its orders, none of another
abbrev pub messages_of : Chart → Entry → ℕ → List (List ℕ)
messages_of chart entry place = if is_booked entry.outcome then messages_from chart entry.pay place 1 entry.pay.orders else []
