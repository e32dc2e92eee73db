-- The transfer and the covers that are sent of a pay are read of their fields, and break no rule.
use Rattle.std.proofs.Common.{◌≡◌, ℕ, true, List, Some, None, Ok, ap, ◌∙◌, sym, arith, subst}
use Rattle.std.specs.Prelude.{IfSome, codes, find}
use Rattle.std.proofs.lemmas.Option.{IfSome_then}
use Rattle.corr_ids.specs.declared.envelope.Envelope.{Envelope}
use Rattle.corr_money.specs.declared.amount.Amount.{Amount}
use Rattle.ref_tables.specs.Seen.{Tables}
use Rattle.fin_fields.specs.Fields.{fields_of}
use Rattle.fin_contents.specs.Money.{value_of}
use Rattle.fin_contents.specs.Writing.{value_field}
use Rattle.fin_message.specs.Sound.{Say}
use Rattle.fin_message.specs.declared.message.Message.{Message}
use Rattle.fin_message.specs.declared.message.Message.TheVariants as message
use Rattle.mt103.specs.Codes.{is_charged}
use Rattle.mt103.specs.Message.{field_tests as tests_103, mt103_of}
use Rattle.mt103.specs.declared.message.Mt103.{Mt103}
use Rattle.mt202cov.specs.Message.{field_tests as tests_202, mt202cov_of}
use Rattle.mt202cov.specs.declared.message.Mt202Cov.{Mt202Cov}
use Rattle.corr_text.specs.First.{first_of}
use Rattle.day_model.specs.Chart.{Chart}
use Rattle.day_model.specs.declared.pay.Pay.{Pay}
use Rattle.day_model.proofs.laws.Fitting.{fitting}
use Rattle.advices.specs.Cover.{cover_fields}
use Rattle.advices.specs.Fields.{is_named, ours}
use Rattle.advices.specs.Legs.{charge_of, debited_amount, leg_amount, value_of_pay}
use Rattle.advices.specs.Received.{ordered_of, received_of}
use Rattle.advices.specs.inner.Spelled.{IsWritableAmount}
use Rattle.advices.specs.Transfer.{transfer_fields}
use Rattle.advices.specs.Valid.{CameFrom, CoverReads, IsTabled, PassReads, TransferReads, amount_32a}
use Rattle.advices.proofs.laws.Covers.{cover-fields-pass, cover-parted}
use Rattle.advices.proofs.laws.Made.{ours-read}
use Rattle.advices.proofs.laws.Orders.{charge-taken, debits, leg-moved, ordered-spelled, received-cut}
use Rattle.advices.proofs.laws.Ordered.{ordered-ccy, ordered-tabled}
use Rattle.advices.proofs.laws.Origin.{given, like-tabled}
use Rattle.advices.proofs.laws.Passes.{pass-fields-read}
use Rattle.advices.proofs.laws.SentCover.{sent-cover-reads}
use Rattle.advices.proofs.laws.SentTransfer.{transfer-reads}
use Rattle.advices.proofs.laws.Transfers.{transfer-fields-pass, transfer-parted}
use Rattle.advices.proofs.laws.Values.{ChargeReads, amount-made, charge-made, value-made}

-- what the legs give: the value that is sent on, and what was ordered
record Legs (t : Tables) (chart : Chart) (pay : Pay) (money : Amount) : Type 0 where
  own : Amount
  sent : Amount
  of_own : debited_amount chart pay ≡ Some own
  of_sent : leg_amount chart pay 2 ≡ Some sent
  value : value_of t (value_field (value_of_pay pay sent)) ≡ Ok (value_of_pay pay sent)
  spelled : IsWritableAmount (ordered_of (received_of pay) own)
  tabled : IsTabled t (ordered_of (received_of pay) own)
  ccy : sent.ccy ≡ money.ccy
  ordered_ccy : (ordered_of (received_of pay) own).ccy ≡ money.ccy

legs : (t : Tables) (chart : Chart) (pay : Pay) (m : Message) → CameFrom t chart pay m → Legs t chart pay (amount_32a m)
legs t chart pay m came =
    let g = given t pay m came.received in
    let many = (fitting chart pay.legs came.fits).many in
    let first = leg-moved chart pay 1 came.accounts came.fits (omega arith, omega (arith, many)) in
    let second = leg-moved chart pay 2 came.accounts came.fits (omega arith, many) in
    let debited = debits chart pay first.account came.fits first.on_account first.formed in
    let money = came.money 1 first.account first.on_account in
    let moneys = came.money 2 second.account second.on_account in
    let like = like-tabled t (amount_32a m) debited.amount (debited.in_ccy ∙ money.ccy) (debited.in_decimals ∙ money.decimals) g.tabled in
    let likes = like-tabled t (amount_32a m) second.amount (second.in_ccy ∙ moneys.ccy) (second.in_decimals ∙ moneys.decimals) g.tabled in
    let decimals = debited.in_decimals ∙ money.decimals ∙ sym (ap (λ (a : Amount). a.decimals) g.same) in
    let found : find (is_named 32 (codes "A")) (received_of pay).fields ≡ Some g.dated = ap (find (is_named 32 (codes "A"))) g.fields ∙ g.found_32 in
    record {
      own = debited.amount;
      sent = second.amount;
      of_own = debited.of_amount;
      of_sent = second.of_amount;
      value = value-made t (value_of_pay pay second.amount) (record { day = came.shape.value; amount = second.spelled }) likes second.above;
      spelled = ordered-spelled (received_of pay) debited.amount debited.spelled;
      tabled = ordered-tabled t (received_of pay) debited.amount g.dated g.value found g.says_32 decimals like;
      ccy = second.in_ccy ∙ moneys.ccy;
      ordered_ccy =
          let same : g.value.amount.ccy ≡ (amount_32a m).ccy = ap (λ (a : Amount). a.ccy) g.same in
          ordered-ccy t (received_of pay) debited.amount g.dated g.value found g.says_32 (debited.in_ccy ∙ money.ccy ∙ sym same) ∙ same;
    }

-- the charge has the currency of 32A, so it is read
charge-reads : (t : Tables) (chart : Chart) (pay : Pay) (m : Message) → CameFrom t chart pay m → ChargeReads t (charge_of chart pay)
charge-reads t chart pay m came =
    let g = given t pay m came.received in
    charge-made t (charge_of chart pay) (IfSome_then (charge_of chart pay) (charge-taken chart pay came.accounts came.fits) (λ a is.
    let third = is.third in
    let money = came.money 3 third.account third.on_account in
    let like = like-tabled t (amount_32a m) third.amount (third.in_ccy ∙ money.ccy) (third.in_decimals ∙ money.decimals) g.tabled in
    subst (λ (x : Amount). IsWritableAmount x × IsTabled t x) is.same (third.spelled, like)))

-- and is taken out of a transfer alone that bears it
charge-borne : (t : Tables) (chart : Chart) (pay : Pay) (envelope : Envelope) (text : List ℕ) (m : Mt103) → CameFrom t chart pay (message.Transfer envelope text m)
    → IfSome (charge_of chart pay) (λ a. is_charged m.charge ≡ true)
charge-borne t chart pay envelope text m came =
    IfSome_then (charge_of chart pay) (charge-taken chart pay came.accounts came.fits)
    (λ a is. came.charged is.third.account is.third.on_account is.kind)

transfer-tests : (t : Tables) (pay : Pay) (m : Mt103) (text : List ℕ) → text ≡ pay.text → Say tests_103 mt103_of t text m
    → first_of (tests_103 t (fields_of pay.text)) ≡ None
transfer-tests t pay m text same said = rw (← same) (said.tests)

transfer-read : (t : Tables) (pay : Pay) (m : Mt103) (text : List ℕ) → text ≡ pay.text → Say tests_103 mt103_of t text m
    → mt103_of t (fields_of pay.text) ≡ Ok m
transfer-read t pay m text same said = subst (λ (bs : List ℕ). mt103_of t (fields_of bs) ≡ Ok m) same said.says

cover-tests : (t : Tables) (pay : Pay) (m : Mt202Cov) (text : List ℕ) → text ≡ pay.text → Say tests_202 mt202cov_of t text m
    → first_of (tests_202 t (fields_of pay.text)) ≡ None
cover-tests t pay m text same said = rw (← same) (said.tests)

cover-read : (t : Tables) (pay : Pay) (m : Mt202Cov) (text : List ℕ) → text ≡ pay.text → Say tests_202 mt202cov_of t text m
    → mt202cov_of t (fields_of pay.text) ≡ Ok m
cover-read t pay m text same said = subst (λ (bs : List ℕ). mt202cov_of t (fields_of bs) ≡ Ok m) same said.says

-- ---- they are read, and break no rule

pub transfer-onward : TransferReads
transfer-onward t chart pay envelope text m place k to skip via came small few via_is sender receiver =
    let l = legs t chart pay (message.Transfer envelope text m) came in
    let g = given t pay (message.Transfer envelope text m) came.received in
    let kept = came.received.kept in
    let r = received_of pay in
    let fs = fields_of pay.text in
    let none = transfer-tests t pay m text kept.1 came.received.said in
    let is = (received-cut pay came.shape).sender in
    let one = ours-read place k small few 20 in
    let v = value_of_pay pay l.sent in
    let ordered = ordered_of r l.own in
    let charge = charge_of chart pay in
    let reads = charge-reads t chart pay (message.Transfer envelope text m) came in
    let parted =
    transfer-parted t r fs kept.0 g.fields none is came.sender (ours place k) one v l.value ordered l.spelled l.tabled charge reads skip via via_is in
    let pass =
    transfer-fields-pass t r fs kept.0 g.fields none is came.sender (ours place k) one v l.value ordered l.spelled l.tabled charge reads skip via via_is in
    rw (l.of_own, l.of_sent)
    (transfer-reads t fs (ours place k) v ordered charge skip via parted.0 (transfer_fields r (ours place k) v ordered charge skip via) none pass parted.1
    l.value (amount-made t 33 (Some 66) ordered l.spelled l.tabled) reads via_is
    m (transfer-read t pay m text kept.1 came.received.said) l.ccy l.ordered_ccy
    (charge-borne t chart pay envelope text m came) envelope.sender envelope.receiver sender receiver came.received.rules)

pub cover-onward : CoverReads
cover-onward t chart pay envelope text m place k to end skip came small few end_is end_known =
    let l = legs t chart pay (message.Transfer envelope text m) came in
    let g = given t pay (message.Transfer envelope text m) came.received in
    let kept = came.received.kept in
    let r = received_of pay in
    let fs = fields_of pay.text in
    let none = transfer-tests t pay m text kept.1 came.received.said in
    let is = (received-cut pay came.shape).sender in
    let one = ours-read place k small few 20 in
    let two = ours-read place 1 small (omega arith) 21 in
    let v = value_of_pay pay l.sent in
    let ordered = ordered_of r l.own in
    let parted =
    cover-parted t r fs kept.0 g.fields none is came.sender (ours place k)
    (ours place 1) one two v l.value ordered l.spelled l.tabled end end_is end_known skip in
    let pass =
    cover-fields-pass t r fs kept.0 g.fields none is came.sender (ours place k)
    (ours place 1) one two v l.value ordered l.spelled l.tabled end end_is end_known skip in
    rw (l.of_own, l.of_sent)
    (sent-cover-reads t fs (ours place k) (ours place 1) v ordered end skip parted.0
    (cover_fields r (ours place k) (ours place 1) v ordered end skip) none pass parted.1
    m (transfer-read t pay m text kept.1 came.received.said) envelope.sender envelope.receiver came.received.rules)

pub pass-onward : PassReads
pass-onward t chart pay envelope text m place k to skip came small few =
    let l = legs t chart pay (message.Cover envelope text m) came in
    let g = given t pay (message.Cover envelope text m) came.received in
    let kept = came.received.kept in
    let none = cover-tests t pay m text kept.1 came.received.said in
    let read = cover-read t pay m text kept.1 came.received.said in
    rw (l.of_sent)
    (pass-fields-read t (received_of pay) (fields_of pay.text) m kept.0 g.fields none read (received-cut pay came.shape).sender came.sender
    (ours place k) (ours-read place k small few 20) (value_of_pay pay l.sent) l.value skip)
