-- The messages that are sent of an entry.
use Rattle.std.specs.Prelude.{◌≡◌, ℕ, ◌+◌, List, [], ◌∷◌, None, Ok}
use Rattle.corr_ids.specs.declared.bic.Bic.{Bic}
use Rattle.fin_blocks.specs.Blocks.{blocks_of}
use Rattle.fin_blocks.specs.Sending.{sent_blocks, sent_text}
use Rattle.fin_fields.specs.Faults.{field_fault}
use Rattle.fin_fields.specs.Fields.{fields_of}
use Rattle.fin_fields.specs.Writing.{fields_text}
use Rattle.fin_fields.specs.declared.field.Field.{Field}
use Rattle.day_model.specs.Chart.{Chart}
use Rattle.day_model.specs.declared.pay.Order.{Order}
use Rattle.day_model.specs.declared.pay.Pay.{Pay}
use Rattle.advices.specs.Messages.{order_type, receiver_of, order_user, order_fields}

-- ---- read again

-- a message is read into the blocks that it was written of, and its lines are cut into its fields
pub record ReadsBack (home : Bic) (mt : ℕ) (to : Bic) (user : List (ℕ × List ℕ)) (fs : List Field) : Type 0 where
  pub blocks : blocks_of (sent_text home mt to user (fields_text fs)) ≡ Ok (sent_blocks home mt to user (fields_text fs))
  pub cut : field_fault (fields_text fs) ≡ None
  pub fields : fields_of (fields_text fs) ≡ fs

-- so the message of the k-th order
abbrev pub OrderReadsBack : Chart → Pay → ℕ → ℕ → Order → Type 0
OrderReadsBack chart pay place k order = ReadsBack chart.home (order_type order) (receiver_of order) (order_user pay.uetr order) (order_fields chart pay place k order)

-- and those of orders in turn
abbrev pub AllReadBack : Chart → Pay → ℕ → ℕ → List Order → Type 0
AllReadBack chart pay place k [] = Unit {0}
AllReadBack chart pay place k (order ∷ orders) = OrderReadsBack chart pay place k order × AllReadBack chart pay place (k + 1) orders
