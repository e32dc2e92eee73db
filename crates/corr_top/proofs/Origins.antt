-- Each pay that is entered came from a message that is accepted, so what is sent of it is accepted.
use Rattle.std.proofs.Common.{◌≡◌, ℕ, ◌+◌, ◌-◌, ◌≤◌, zero, suc, true, List, [], ◌∷◌, ◌++◌, Option, Some, None, Result, Ok, Err, length, refl, sym, ap, subst, eqb, arith, inl, inr, ◌⊎◌}
use Rattle.std.specs.Prelude.{All, IsTrue, option_and_then, slice_get}
use Rattle.std.specs.List.{cons_option}
use Rattle.std.specs.Result.{result_ok}
use Rattle.std.proofs.lemmas.Bool.{and_parts, eqb-true}
use Rattle.std.proofs.lemmas.List.Elements.{All-cons, All-head, All-nil, All-tail, All-weaker}
use Rattle.std.proofs.lemmas.Option.{none-some, same_Some}
use Rattle.std.proofs.lemmas.Slice.Eq.{bytes_eq-Decides}
use Rattle.corr_text.specs.declared.fault.Code.{Code}
use Rattle.corr_ids.specs.Address.{bank_of}
use Rattle.corr_ids.specs.Mir.{sender_of}
use Rattle.corr_ids.specs.declared.day.Day.{Day}
use Rattle.corr_ids.specs.declared.envelope.Envelope.{Envelope}
use Rattle.corr_ids.specs.declared.mir.Mir.{Mir}
use Rattle.corr_money.specs.declared.amount.Amount.{Amount}
use Rattle.corr_money.specs.declared.amount.Ccy.{Ccy}
use Rattle.ref_tables.specs.Seen.{Tables, has_head}
use Rattle.ssi_versions.specs.InstructionList.{AreInstructions}
use Rattle.ssi_versions.specs.declared.row.SsiRow.{SsiRow}
use Rattle.day_model.specs.Chart.{Chart, IsChart, account_at, is_same_ccy}
use Rattle.day_model.proofs.laws.Fronts.{fits_now}
use Rattle.day_model.specs.Fit.{FitsAccounts}
use Rattle.day_model.specs.Legal.{IsLegal}
use Rattle.day_model.specs.Shape.{HasShape}
use Rattle.day_model.specs.declared.account.Account.{Account}
use Rattle.day_model.specs.declared.entry.Entry.{Entry}
use Rattle.day_model.specs.declared.pay.Leg.{Leg}
use Rattle.day_model.specs.declared.pay.Mt.TheVariants as mt
use Rattle.day_model.specs.declared.pay.Order.{Order}
use Rattle.day_model.specs.declared.pay.Order.TheVariants as order
use Rattle.day_model.specs.declared.pay.Pay.{Pay}
use Rattle.fin_contents.proofs.laws.Steps.{read-then}
use Rattle.fin_fields.specs.Fields.{fields_of}
use Rattle.fin_message.specs.Verdict.{Refused, verdict_of}
use Rattle.fin_message.specs.declared.message.Message.{Message}
use Rattle.fin_message.specs.declared.message.Message.TheVariants as message
use Rattle.mt103.specs.declared.message.Mt103.{Mt103}
use Rattle.mt202cov.specs.declared.message.Mt202Cov.{Mt202Cov}
use Rattle.routing.specs.Accounts.{fits_amount}
use Rattle.routing.proofs.laws.Routes.{KnowsVia}
use Rattle.pay_plan.specs.Asked.{amount_in}
use Rattle.pay_plan.specs.Plan.{plan_of}
use Rattle.pay_plan.specs.Charging as charging
use Rattle.pay_plan.specs.inner.Sends.{FollowsMessage, IsChargeOf, IsPayOf}
use Rattle.pay_plan.specs.declared.ask.Ask.{Ask}
use Rattle.pay_plan.proofs.laws.Sent.{plan-is}
use Rattle.advices.specs.Valid.{Asks, CameFrom, IsInMoney, IsTextOf, amount_32a, may_be_charged}
use Rattle.corr_top.specs.declared.directory.Directory.{Directory}
use Rattle.corr_top.specs.Asks.{asks_cover, asks_transfer}
use Rattle.corr_top.specs.Booking.{IsEnteredOn}
use Rattle.corr_top.specs.Message.{pay_asked_of, pay_in, pays_in, readings_of, refused, unrouted}
use Rattle.corr_top.specs.Origin.{AreSentValid}
use Rattle.corr_top.specs.inner.Origin.{SendsAccepted}
use Rattle.corr_top.specs.inner.Serving.{HasPayShape}
use Rattle.corr_top.proofs.Senders.{AsksWell, IsGood, verdict-good}

-- ---- lists

all-get : {A : Type 0} (P : A → Type 0) (xs : List A) → ((i : ℕ) (x : A) → slice_get xs i ≡ Some x → P x) → All P xs
all-get P [] each = All-nil P
all-get P (x ∷ xs) each = All-cons P x xs (each 0 x refl) (all-get P xs (λ i y at. each (suc i) y at))

get-all : {A : Type 0} (P : A → Type 0) (xs : List A) (i : ℕ) (x : A) → All P xs → slice_get xs i ≡ Some x → P x
get-all P [] i x each at = absurd (none-some x at)
get-all P (y ∷ ys) zero x each at = subst P (same_Some y x at) (All-head P y ys each)
get-all P (y ∷ ys) (suc i) x each at = get-all P ys i x (All-tail P y ys each) at

-- an element after the first list is one of the second
after : {A : Type 0} (xs ys : List A) (i : ℕ) (x : A) → length xs ≤ i → slice_get (xs ++ ys) i ≡ Some x → (k : ℕ) × (slice_get ys k ≡ Some x)
after [] ys i x past at = (i, at)
after (y ∷ xs) ys zero x past at = absurd (omega (arith, past))
after (y ∷ xs) ys (suc i) x past at = after xs ys i x (omega (arith, past)) at

-- ---- the instructions

rows-known : (t : Tables) (rows : List SsiRow) → AreInstructions t rows → All (KnowsVia t) rows
rows-known t rows are = all-get (KnowsVia t) rows (λ i r at. (are.each i r at).via)

-- ---- the accounts

same-ccy : (a b : Ccy) → is_same_ccy a b ≡ true → a ≡ b
same-ccy a b e = ap (λ (bs : List ℕ). record { 0 = bs }) ((bytes_eq-Decides a.0 b.0).0 e)

in-money : (amount : Amount) (x : Account) → fits_amount amount x ≡ true → IsInMoney x amount
in-money amount x e =
    let parts = and_parts (is_same_ccy x.ccy amount.ccy) (eqb x.decimals amount.decimals) e in
    record { ccy = same-ccy x.ccy amount.ccy parts.0; decimals = eqb-true x.decimals amount.decimals parts.1 }

of-leg : (chart : Chart) (amount : Amount) (o : Option Leg) (x : Account) → ((leg : Leg) → o ≡ Some leg → account_at chart leg.account.0 ≡ Some x → fits_amount amount x ≡ true)
    → option_and_then (λ leg. account_at chart leg.account.0) o ≡ Some x → IsInMoney x amount
of-leg chart amount None x each at = absurd (none-some x at)
of-leg chart amount (Some leg) x each at = in-money amount x (each leg refl at)

-- an account of a third leg is there only where a charge may be taken
of-charge : (chart : Chart) (ask : Ask) (o : Option Leg) (x : Account) → ((leg : Leg) → o ≡ Some leg → IsChargeOf chart ask leg) → option_and_then (λ leg. account_at chart leg.account.0) o ≡ Some x → IsTrue (charging.may_be_charged ask)
of-charge chart ask None x each at = absurd (none-some x at)
of-charge chart ask (Some leg) x each at = (each leg refl).asked

-- ---- the orders

follows-transfer : (t : Tables) (envelope : Envelope) (text : List ℕ) (m : Mt103) (o : Order) → FollowsMessage t mt.Transfer o → Asks t (message.Transfer envelope text m) o
follows-transfer t envelope text m (order.Transfer to skip via) h = h
follows-transfer t envelope text m (order.Cover to end skip) h = h
follows-transfer t envelope text m (order.Pass to skip) h = h
follows-transfer t envelope text m (order.Debit to leg) h = h
follows-transfer t envelope text m (order.Credit to leg) h = h

follows-cover : (t : Tables) (envelope : Envelope) (text : List ℕ) (m : Mt202Cov) (o : Order) → FollowsMessage t mt.Cover o → Asks t (message.Cover envelope text m) o
follows-cover t envelope text m (order.Transfer to skip via) h = h
follows-cover t envelope text m (order.Cover to end skip) h = h
follows-cover t envelope text m (order.Pass to skip) h = h
follows-cover t envelope text m (order.Debit to leg) h = h
follows-cover t envelope text m (order.Credit to leg) h = h

-- ---- a pay and its message

-- a pay came from a message that passes its tests under these tables and asks for the pay's orders
record HasOrigin (t : Tables) (chart : Chart) (pay : Pay) : Type 0 where
  source : Message
  came : CameFrom t chart pay source
  asks : All (Asks t source) pay.orders

came-from : (t : Tables) (chart : Chart) (envelope : Envelope) (text : List ℕ) (ask : Ask) (pay : Pay) (m : Message) → IsChart chart → FitsAccounts chart pay → HasShape pay
    → IsGood t envelope m → IsPayOf t chart envelope text ask pay → IsTextOf pay m → amount_in ask ≡ amount_32a m → (IsTrue (charging.may_be_charged ask) → IsTrue (may_be_charged m))
    → CameFrom t chart pay m
came-from t chart envelope text ask pay m sound fit shape good is kept same may = record {
  accounts = sound;
  fits = fit;
  shape = shape;
  received = record { said = good.said; rules = good.rules; kept = kept };
  money = λ n x at. subst (IsInMoney x) same (of-leg chart (amount_in ask) (slice_get pay.legs (n - 1)) x (λ leg there on. is.accounts (n - 1) leg x there on) at);
  charged = λ x at kind. may (of-charge chart ask (slice_get pay.legs 2) x is.charge at);
  sender = subst (λ (mir : Mir). has_head t (bank_of (sender_of mir)).head ≡ true) (sym is.mir_is) good.sender.named;
}

planned : (envelope : Envelope) (plan : Result Pay Code) (pay : Pay) → unrouted envelope plan ≡ Ok pay → plan ≡ Ok pay
planned envelope (Ok x) pay e = let same : x ≡ pay = cc e in subst (λ (y : Pay). ◌≡◌ {A = Result Pay Code} (Ok x) (Ok y)) same refl
planned envelope (Err why) pay e = absurd (cc e)

valid : (judged : Result Message Refused) (m : Message) → refused judged ≡ Ok m → judged ≡ Ok m
valid (Ok x) m e = let same : x ≡ m = cc e in subst (λ (y : Message). ◌≡◌ {A = Result Message Refused} (Ok x) (Ok y)) same refl
valid (Err why) m e = absurd (cc e)

module _ (directory : Directory) (chart : Chart) (are : AreInstructions directory.tables directory.ssi) (sound : IsChart chart) (pay : Pay) (fit : FitsAccounts chart pay) (shape : HasShape pay) where
  origin-of : (m : Message) → AsksWell directory.tables m → pay_in directory chart m ≡ Ok pay → HasOrigin directory.tables chart pay
  origin-of (message.Transfer envelope text m) good e =
      let t = directory.tables in
      let source : Message = message.Transfer envelope text m in
      let known = rows-known t directory.ssi are in
      let plan = planned envelope (plan_of envelope text (asks_transfer m) directory.ssi directory.charges chart) pay e in
      let is = plan-is t envelope text (asks_transfer m) directory.ssi directory.charges chart pay (record { fields = fields_of text; read = good.said.says }) good.sender.known known plan in
      record {
        source = source;
        came = came-from t chart envelope text (asks_transfer m) pay source sound fit shape good is (is.mt_is, sym is.text_is) refl (λ may. may);
        asks = All-weaker (FollowsMessage t mt.Transfer) (Asks t source) (follows-transfer t envelope text m) pay.orders is.orders;
      }
  origin-of (message.Cover envelope text m) good e =
      let t = directory.tables in
      let source : Message = message.Cover envelope text m in
      let known = rows-known t directory.ssi are in
      let plan = planned envelope (plan_of envelope text (asks_cover m) directory.ssi directory.charges chart) pay e in
      let is = plan-is t envelope text (asks_cover m) directory.ssi directory.charges chart pay (record { fields = fields_of text; read = good.said.says }) good.sender.known known plan in
      record {
        source = source;
        came = came-from t chart envelope text (asks_cover m) pay source sound fit shape good is (is.mt_is, sym is.text_is) refl (λ may. may);
        asks = All-weaker (FollowsMessage t mt.Cover) (Asks t source) (follows-cover t envelope text m) pay.orders is.orders;
      }
  origin-of (message.Debit envelope advice) good e = absurd (cc e)
  origin-of (message.Credit envelope advice) good e = absurd (cc e)
  origin-of (message.Page envelope page) good e = absurd (cc e)

  -- the pay of a message's bytes
  bytes-origin : (bs : List ℕ) → pay_asked_of directory chart bs ≡ Ok pay → HasOrigin directory.tables chart pay
  unfolding pay_asked_of
  bytes-origin bs e =
      let m = read-then (refused (verdict_of chart.home directory.tables bs)) _ pay e in
      origin-of m.0 (verdict-good chart.home directory.tables bs m.0 (valid (verdict_of chart.home directory.tables bs) m.0 m.1)) m.2

-- ---- the pays of a file

first-or : (n : ℕ) (p pay : Pay) (rest : List Pay) → slice_get (p ∷ rest) n ≡ Some pay → (p ≡ pay) ⊎ ((k : ℕ) × (slice_get rest k ≡ Some pay))
first-or zero p pay rest at = inl (same_Some p pay at)
first-or (suc n) p pay rest at = inr (n, at)

-- some message asks for each
read-from : (directory : Directory) (chart : Chart) (cut : List (List ℕ)) (n : ℕ) (pay : Pay) → slice_get (pays_in (readings_of directory chart cut)) n ≡ Some pay
    → (bs : List ℕ) × (pay_asked_of directory chart bs ≡ Ok pay)
read-from directory chart [] n pay at = absurd (none-some pay at)
read-from directory chart (m ∷ ms) n pay at =
    let rest = pays_in (readings_of directory chart ms) in
    elim (pay_asked_of directory chart m) as (λ r. pay_asked_of directory chart m ≡ r → slice_get (cons_option (result_ok r) rest) n ≡ Some pay → (bs : List ℕ) × (pay_asked_of directory chart bs ≡ Ok pay)) [
      | Ok p ↦ λ is here. elim (first-or n p pay rest here) [
        | inl same ↦ (m, subst (λ (y : Pay). pay_asked_of directory chart m ≡ Ok y) same is)
        | inr later ↦ read-from directory chart ms later.0 pay later.1
      ]
      | Err why ↦ λ is here. read-from directory chart ms n pay here
    ] refl at

-- what is sent of the entries that the pays of a file added is accepted under the tables that the file was read by
pub sent-valid : (directory : Directory) (chart : Chart) (day : Day) (cut : List (List ℕ)) (old added new : List Entry) → AreInstructions directory.tables directory.ssi → IsChart chart
    → new ≡ old ++ added → All (IsEnteredOn day (pays_in (readings_of directory chart cut))) added → All HasPayShape added → IsLegal chart new
    → SendsAccepted chart (length old + 1) new → AreSentValid directory.tables chart (length old + 1) new
sent-valid directory chart day cut old added new are sound grown each shapes legal sends = λ i e from at.
    let past : length old ≤ i = omega (arith, from) in
    let place = after old added i e past (subst (λ (es : List Entry). slice_get es i ≡ Some e) grown at) in
    let is = get-all (IsEnteredOn day (pays_in (readings_of directory chart cut))) added place.0 e each place.1 in
    let bytes = read-from directory chart cut is.place e.pay is.pay_is in
    let origin = bytes-origin directory chart are sound e.pay (fits_now chart new i e legal at) (get-all HasPayShape added place.0 e shapes place.1) bytes.0 bytes.1 in
    sends i e from at directory.tables origin.source origin.came origin.asks
