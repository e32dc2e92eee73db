-- Each message that is sent of a pay is accepted: its blocks, its lines, its fields and its rules pass the tests of a sent message.
use Rattle.std.proofs.Common.{◌≡◌, ℕ, ◌+◌, ◌≤◌, true, List, [], ◌∷◌, length, Option, Some, None, Result, Ok, Err, refl, sym, arith, subst}
use Rattle.std.specs.Prelude.{codes, IfOk, IfSome, OnOk}
use Rattle.std.specs.List.{All}
use Rattle.std.proofs.lemmas.List.Elements.{All-cons, All-head, All-tail}
use Rattle.corr_text.specs.First.{first_of}
use Rattle.corr_ids.specs.Bic.{IsBic}
use Rattle.corr_ids.specs.declared.bic.Bic.{Bic}
use Rattle.corr_ids.specs.declared.uetr.Uetr.{Uetr}
use Rattle.ref_tables.specs.Seen.{Tables, has_head, IsKnown}
use Rattle.fin_blocks.specs.Sending.{sent_blocks, sent_text}
use Rattle.fin_blocks.specs.declared.blocks.Blocks.{Blocks}
use Rattle.fin_fields.specs.Faults.{field_fault}
use Rattle.fin_fields.specs.Fields.{fields_of}
use Rattle.fin_fields.specs.Writing.{fields_text}
use Rattle.fin_fields.specs.declared.field.Field.{Field}
use Rattle.mt103.specs.Message.{mt103_of}
use Rattle.mt103.specs.declared.message.Mt103.{Mt103}
use Rattle.mt103_rules.specs.Rules.{all_rules}
use Rattle.mt202cov.specs.Message.{mt202cov_of}
use Rattle.mt202cov.specs.declared.message.Mt202Cov.{Mt202Cov}
use Rattle.mt9_advice.specs.Advice.{mt900_of, mt910_of}
use Rattle.mt9_advice.specs.declared.credit.Mt910.{Mt910}
use Rattle.mt9_advice.specs.declared.debit.Mt900.{Mt900}
use Rattle.fin_message.specs.Heading.{fits_validation, heading_tests, is_type}
use Rattle.fin_message.specs.Parts.{envelope_of, subblock_under}
use Rattle.fin_message.specs.Verdict.{cover_in, credit_in, debit_in, judged, message_in, message_of as read_of, transfer_in}
use Rattle.fin_message.specs.declared.direction.Direction.TheVariants.{Sent}
use Rattle.fin_message.specs.declared.message.Message.{Message}
use Rattle.fin_message.specs.declared.message.Message.TheVariants as message
use Rattle.day_model.specs.Chart.{Chart}
use Rattle.day_model.specs.Shape.{HasShape, IsOrder}
use Rattle.day_model.specs.declared.pay.Order.{Order}
use Rattle.day_model.specs.declared.pay.Order.TheVariants as order
use Rattle.day_model.specs.declared.pay.Pay.{Pay}
use Rattle.advices.specs.Messages.{order_message, messages_from, order_fields, uetr_block}
use Rattle.advices.specs.inner.Messages.{AllReadBack, OrderReadsBack, ReadsBack}
use Rattle.advices.specs.Valid.{AreAccepted, Asks, CameFrom, IsAccepted, IsNotice, IsOwnPay, NoticesAccepted}
use Rattle.advices.proofs.laws.Credits.{credit-passes}
use Rattle.advices.proofs.laws.Debits.{debit-passes}
use Rattle.advices.proofs.laws.Notices.{credit-notice, debit-notice}
use Rattle.advices.proofs.laws.Onward.{cover-onward, pass-onward, transfer-onward}
use Rattle.advices.proofs.laws.TransferRules.{same-bytes}

-- ---- the verdict

-- blocks that pass their tests, lines that are cut without fault, and what they say
blocks-accepted : (home : Bic) (t : Tables) (b : Blocks) (x : Message) → first_of (heading_tests Sent home t b) ≡ None → field_fault b.text ≡ None
    → message_in t b ≡ Ok x → read_of Sent home t b ≡ Ok x
unfolding read_of
blocks-accepted home t b x heading cut says = rw (heading, cut) says

module _ (home : Bic) (t : Tables) (mt : ℕ) (to : Bic) (user : List (ℕ × List ℕ)) (fs : List Field) (back : ReadsBack home mt to user fs) where
  abbrev sent : Blocks
  sent = sent_blocks home mt to user (fields_text fs)

  heading : is_type mt ≡ true → IsKnown t to → fits_validation mt (subblock_under 119 user) ≡ true → first_of (heading_tests Sent home t sent) ≡ None
  heading known_type known flag = rw (same-bytes home.head, known_type, known, flag) refl

  accepted : (x : Message) → is_type mt ≡ true → IsKnown t to → fits_validation mt (subblock_under 119 user) ≡ true → message_in t sent ≡ Ok x
      → IsAccepted home t (sent_text home mt to user (fields_text fs))
  unfolding judged
  accepted x known_type known flag says = (x, rw (back.blocks, blocks-accepted home t sent x (heading known_type known flag) back.cut says) refl)

-- ---- by type

-- the validation flag: none in a transfer, that of a cover in a cover
no-flag : (uetr : Option Uetr) → fits_validation 103 (subblock_under 119 (uetr_block uetr)) ≡ true
no-flag None = refl
no-flag (Some u) = refl

cover-flag : (uetr : Option Uetr) → fits_validation 202 (subblock_under 119 ((119, codes "COV") ∷ uetr_block uetr)) ≡ true
cover-flag None = refl
cover-flag (Some u) = refl

module _ (home : Bic) (t : Tables) (to : Bic) (fs : List Field) where
  transfer-says : (user : List (ℕ × List ℕ)) (n : Mt103) → fields_of (fields_text fs) ≡ fs → mt103_of t fs ≡ Ok n
      → first_of
      (all_rules (envelope_of (sent_blocks home 103 to user (fields_text fs))).sender
      (envelope_of (sent_blocks home 103 to user (fields_text fs))).receiver t n) ≡ None
      → (x : Message) × (message_in t (sent_blocks home 103 to user (fields_text fs)) ≡ Ok x)
  unfolding transfer_in
  transfer-says user n cut read rules =
      (message.Transfer (envelope_of (sent_blocks home 103 to user (fields_text fs))) (fields_text fs) n, rw (cut, read, rules) refl)

  cover-says : (user : List (ℕ × List ℕ)) (n : Mt202Cov) → fields_of (fields_text fs) ≡ fs → mt202cov_of t fs ≡ Ok n
      → (x : Message) × (message_in t (sent_blocks home 202 to user (fields_text fs)) ≡ Ok x)
  unfolding cover_in
  cover-says user n cut read = (message.Cover (envelope_of (sent_blocks home 202 to user (fields_text fs))) (fields_text fs) n, rw (cut, read) refl)

  debit-says : (n : Mt900) → fields_of (fields_text fs) ≡ fs → mt900_of t fs ≡ Ok n
      → (x : Message) × (message_in t (sent_blocks home 900 to [] (fields_text fs)) ≡ Ok x)
  unfolding debit_in
  debit-says n cut read = (message.Debit (envelope_of (sent_blocks home 900 to [] (fields_text fs))) n, rw (cut, read) refl)

  credit-says : (n : Mt910) → fields_of (fields_text fs) ≡ fs → mt910_of t fs ≡ Ok n
      → (x : Message) × (message_in t (sent_blocks home 910 to [] (fields_text fs)) ≡ Ok x)
  unfolding credit_in
  credit-says n cut read = (message.Credit (envelope_of (sent_blocks home 910 to [] (fields_text fs))) n, rw (cut, read) refl)

-- ---- by order

known-bic : (t : Tables) (via : Option Bic) → IfSome via IsBic → IfSome via (IsKnown t) → IfSome via (λ b. IsBic b × (has_head t b.head ≡ true))
known-bic t None is known = tt
known-bic t (Some b) is known = (is, known)

module _ (t : Tables) (chart : Chart) (pay : Pay) (place : ℕ) (small : place ≤ 100000) where
  debit-accepted : (k leg : ℕ) (to : Bic) → (advice : Mt900) × (mt900_of t (order_fields chart pay place k (order.Debit to leg)) ≡ Ok advice)
      → IsKnown t to → OrderReadsBack chart pay place k (order.Debit to leg)
      → IsAccepted chart.home t (order_message chart pay place k (order.Debit to leg))
  debit-accepted k leg to n known back =
      let fs = order_fields chart pay place k (order.Debit to leg) in
      let says = debit-says chart.home t to fs n.0 back.fields n.1 in
      accepted chart.home t 900 to [] fs back says.0 refl known refl says.1

  credit-accepted : (k leg : ℕ) (to : Bic) → (advice : Mt910) × (mt910_of t (order_fields chart pay place k (order.Credit to leg)) ≡ Ok advice)
      → IsKnown t to → OrderReadsBack chart pay place k (order.Credit to leg)
      → IsAccepted chart.home t (order_message chart pay place k (order.Credit to leg))
  credit-accepted k leg to n known back =
      let fs = order_fields chart pay place k (order.Credit to leg) in
      let says = credit-says chart.home t to fs n.0 back.fields n.1 in
      accepted chart.home t 910 to [] fs back says.0 refl known refl says.1

  order-accepted : (m : Message) (k : ℕ) (o : Order) → CameFrom t chart pay m → k ≤ 255 → IsOrder (length pay.legs) o → Asks t m o
      → OrderReadsBack chart pay place k o → IsAccepted chart.home t (order_message chart pay place k o)
  order-accepted (message.Transfer envelope text m) k (order.Transfer to skip via) came few is asks back =
      let user = uetr_block pay.uetr in
      let b = sent_blocks chart.home 103 to user (fields_text (order_fields chart pay place k (order.Transfer to skip via))) in
      let n =
      transfer-onward t chart pay envelope text m place k to skip via came small few (known-bic t via is.1 asks.1) (envelope_of b).sender
      (envelope_of b).receiver in
      let says = transfer-says chart.home t to (order_fields chart pay place k (order.Transfer to skip via)) user n.0 back.fields n.1 n.2 in
      accepted chart.home t 103 to user (order_fields chart pay place k (order.Transfer to skip via)) back says.0 refl asks.0 (no-flag pay.uetr) says.1
  order-accepted (message.Transfer envelope text m) k (order.Cover to end skip) came few is asks back =
      let user : List (ℕ × List ℕ) = (119, codes "COV") ∷ uetr_block pay.uetr in
      let fs = order_fields chart pay place k (order.Cover to end skip) in
      let n = cover-onward t chart pay envelope text m place k to end skip came small few is.1 asks.1 in
      let says = cover-says chart.home t to fs user n.0 back.fields n.1 in
      accepted chart.home t 202 to user fs back says.0 refl asks.0 (cover-flag pay.uetr) says.1
  order-accepted (message.Transfer envelope text m) k (order.Pass to skip) came few is asks back = absurd asks
  order-accepted (message.Transfer envelope text m) k (order.Debit to leg) came few is asks back =
      debit-accepted k leg to (debit-passes t chart pay (message.Transfer envelope text m) place k leg to came small few is.1).1 asks back
  order-accepted (message.Transfer envelope text m) k (order.Credit to leg) came few is asks back = absurd asks
  order-accepted (message.Cover envelope text m) k (order.Transfer to skip via) came few is asks back = absurd asks
  order-accepted (message.Cover envelope text m) k (order.Cover to end skip) came few is asks back = absurd asks
  order-accepted (message.Cover envelope text m) k (order.Pass to skip) came few is asks back =
      let user : List (ℕ × List ℕ) = (119, codes "COV") ∷ uetr_block pay.uetr in
      let fs = order_fields chart pay place k (order.Pass to skip) in
      let n = pass-onward t chart pay envelope text m place k to skip came small few in
      let says = cover-says chart.home t to fs user n.0 back.fields n.1 in
      accepted chart.home t 202 to user fs back says.0 refl asks (cover-flag pay.uetr) says.1
  order-accepted (message.Cover envelope text m) k (order.Debit to leg) came few is asks back =
      debit-accepted k leg to (debit-passes t chart pay (message.Cover envelope text m) place k leg to came small few is.1).1 asks back
  order-accepted (message.Cover envelope text m) k (order.Credit to leg) came few is asks back =
      credit-accepted k leg to (credit-passes t chart pay envelope text m place k leg to came small few is.1).1 asks back
  order-accepted (message.Debit envelope m) k o came few is asks back = absurd came.received.kept
  order-accepted (message.Credit envelope m) k o came few is asks back = absurd came.received.kept
  order-accepted (message.Page envelope m) k o came few is asks back = absurd came.received.kept

  -- a notice of a pay of the home bank's own
  notice-accepted : IsOwnPay t chart pay → (k : ℕ) (o : Order) → k ≤ 255 → IsOrder (length pay.legs) o → IsNotice t o
      → OrderReadsBack chart pay place k o → IsAccepted chart.home t (order_message chart pay place k o)
  notice-accepted own k (order.Transfer to skip via) few is notice back = absurd notice
  notice-accepted own k (order.Cover to end skip) few is notice back = absurd notice
  notice-accepted own k (order.Pass to skip) few is notice back = absurd notice
  notice-accepted own k (order.Debit to leg) few is notice back =
      debit-accepted k leg to (debit-notice t chart pay place k leg to own small few is.1) notice back
  notice-accepted own k (order.Credit to leg) few is notice back =
      credit-accepted k leg to (credit-notice t chart pay place k leg to own small few is.1) notice back

  -- and so those of orders in turn
  module _ (Wanted : Order → Type 0)
      (one : (k : ℕ) (o : Order) → k ≤ 255 → IsOrder (length pay.legs) o → Wanted o → OrderReadsBack chart pay place k o
      → IsAccepted chart.home t (order_message chart pay place k o)) where
    pub each-accepted : (k : ℕ) (os : List Order) → k + length os ≤ 256 → All (IsOrder (length pay.legs)) os → All Wanted os
        → AllReadBack chart pay place k os → All (IsAccepted chart.home t) (messages_from chart pay place k os)
    each-accepted k [] few is wanted back = λ i d lt. absurd (omega arith)
    each-accepted k (o ∷ os) few is wanted back =
        All-cons (IsAccepted chart.home t) (order_message chart pay place k o) (messages_from chart pay place (k + 1) os)
        (one k o (omega (arith, few)) (All-head (IsOrder (length pay.legs)) o os is) (All-head Wanted o os wanted) back.0)
        (each-accepted (k + 1) os (omega (arith, few)) (All-tail (IsOrder (length pay.legs)) o os is) (All-tail Wanted o os wanted) back.1)

-- ---- the answers of the code

-- under any tables, what is read back of a pay of this shape is accepted
pub texts-accepted : {E : Type 0} (chart : Chart) (pay : Pay) (place : ℕ) (r : Result (List (List ℕ)) E) → place ≤ 100000 → HasShape pay
    → IfOk r (λ texts. texts ≡ messages_from chart pay place 1 pay.orders)
    → OnOk r (AllReadBack chart pay place 1 pay.orders) → IfOk r (AreAccepted chart pay)
texts-accepted chart pay place (Ok texts) small shape same back =
    λ t m came asks. subst (All (IsAccepted chart.home t)) (sym same)
    (each-accepted t chart pay place small (Asks t m) (λ k o few is wanted reads. order-accepted t chart pay place small m k o came few is wanted reads)
    1 pay.orders (omega (arith, shape.few_orders)) shape.each_order asks back)
texts-accepted chart pay place (Err e) small shape same back = tt

-- and so are the notices of a pay of the home bank's own
pub notices-accepted : {E : Type 0} (chart : Chart) (pay : Pay) (place : ℕ) (r : Result (List (List ℕ)) E) → place ≤ 100000 → HasShape pay
    → IfOk r (λ texts. texts ≡ messages_from chart pay place 1 pay.orders)
    → OnOk r (AllReadBack chart pay place 1 pay.orders) → IfOk r (NoticesAccepted chart pay)
notices-accepted chart pay place (Ok texts) small shape same back =
    λ t own notices. subst (All (IsAccepted chart.home t)) (sym same)
    (each-accepted t chart pay place small (IsNotice t) (notice-accepted t chart pay place small own)
    1 pay.orders (omega (arith, shape.few_orders)) shape.each_order notices back)
notices-accepted chart pay place (Err e) small shape same back = tt

-- and so is nothing
pub none-accepted : (chart : Chart) (pay : Pay) (texts : List (List ℕ)) → texts ≡ [] → AreAccepted chart pay texts
none-accepted chart pay texts none = λ t m came asks. subst (All (IsAccepted chart.home t)) (sym none) (λ i d lt. absurd (omega arith))

pub none-told : (chart : Chart) (pay : Pay) (texts : List (List ℕ)) → texts ≡ [] → NoticesAccepted chart pay texts
none-told chart pay texts none = λ t own notices. subst (All (IsAccepted chart.home t)) (sym none) (λ i d lt. absurd (omega arith))
