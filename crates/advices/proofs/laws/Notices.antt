-- The notices of a pay of the home bank's own are read of their fields.
use Rattle.std.proofs.Common.{◌≡◌, ℕ, ◌≤◌, true, List, [], ◌∷◌, length, None, Ok, refl, sym, subst}
use Rattle.corr_ids.specs.Address.{bank_of}
use Rattle.corr_ids.specs.Bic.{IsBic}
use Rattle.corr_ids.specs.Mir.{sender_of}
use Rattle.corr_ids.specs.declared.bic.Bic.{Bic}
use Rattle.ref_tables.specs.Seen.{Tables, has_head}
use Rattle.fin_fields.specs.declared.field.Field.{Field}
use Rattle.fin_contents.specs.Writing.{line_field}
use Rattle.mt9_advice.specs.Advice.{mt900_of, mt910_of}
use Rattle.mt9_advice.specs.declared.credit.Mt910.{Mt910}
use Rattle.mt9_advice.specs.declared.debit.Mt900.{Mt900}
use Rattle.day_model.specs.Chart.{Chart}
use Rattle.day_model.specs.Shape.{IsNumbered}
use Rattle.day_model.specs.declared.pay.Mt.{Mt}
use Rattle.day_model.specs.declared.pay.Mt.TheVariants.{Transfer, Cover}
use Rattle.day_model.specs.declared.pay.Order.TheVariants as order
use Rattle.day_model.specs.declared.pay.Pay.{Pay}
use Rattle.advices.specs.Messages.{order_fields}
use Rattle.advices.specs.Received.{ordering, received_of}
use Rattle.advices.specs.Valid.{IsOwnPay}
use Rattle.advices.proofs.laws.Banks.{OneBank, or-bank}
use Rattle.advices.proofs.laws.Credits.{credit-told}
use Rattle.advices.proofs.laws.Debits.{debit-told}
use Rattle.advices.proofs.laws.Made.{reference-made}
use Rattle.advices.proofs.laws.Orders.{leg-moved, received-cut}

-- the lines 20 and 21
abbrev references : List ℕ → List ℕ → List Field
references reference related = line_field 20 None reference ∷ line_field 21 None related ∷ []

-- they name no ordering institution, so the sender is named in its place
sender-orders : (t : Tables) (mt : Mt) (sender : Bic) (reference related : List ℕ) → IsBic sender → has_head t sender.head ≡ true
    → OneBank t (ordering (record { mt = mt; sender = sender; fields = references reference related }))
sender-orders t Transfer sender reference related is known = or-bank t sender None is known tt
sender-orders t Cover sender reference related is known = or-bank t sender None is known tt

module _ (t : Tables) (chart : Chart) (pay : Pay) (place k leg : ℕ) (to : Bic) (own : IsOwnPay t chart pay) (small : place ≤ 100000) (few : k ≤ 255)
    (numbered : IsNumbered (length pay.legs) leg) where
  pub debit-notice : (advice : Mt900) × (mt900_of t (order_fields chart pay place k (order.Debit to leg)) ≡ Ok advice)
  debit-notice =
      let x = own.text.reference in
      let on = leg-moved chart pay leg own.accounts own.fits numbered in
      let told = debit-told t chart pay place k leg to (references x own.text.related) (line_field 20 None x) x on own.shape.value
      (own.money leg on.amount on.of_amount) own.text.fields refl (reference-made 20 x own.text.reference_is) small few in
      told.1

  pub credit-notice : (advice : Mt910) × (mt910_of t (order_fields chart pay place k (order.Credit to leg)) ≡ Ok advice)
  credit-notice =
      let x = own.text.related in
      let fs = references own.text.reference x in
      let sender = bank_of (sender_of pay.mir) in
      let on = leg-moved chart pay leg own.accounts own.fits numbered in
      let bank : OneBank t (ordering (received_of pay)) =
      subst (λ (all : List Field). OneBank t (ordering (record { mt = pay.mt; sender = sender; fields = all }))) (sym own.text.fields)
      (sender-orders t pay.mt sender own.text.reference x (received-cut pay own.shape).sender own.sender) in
      let told = credit-told t chart pay place k leg to fs (line_field 21 None x) x on own.shape.value
      (own.money leg on.amount on.of_amount) own.text.fields refl (reference-made 21 x own.text.related_is) bank small few in
      told.1
