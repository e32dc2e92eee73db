-- What is sent of an entry passes the tests of its type, under the tables under which the received message passed its own.
use Rattle.std.specs.Prelude.{◌≡◌, ℕ, ◌≤◌, Bool, true, false, List, [], ◌∷◌, Option, Some, None, IfSome, Ok, length}
use Rattle.std.specs.List.{All}
use Rattle.corr_text.specs.First.{first_of}
use Rattle.corr_ids.specs.Address.{bank_of}
use Rattle.corr_ids.specs.Mir.{sender_of}
use Rattle.corr_ids.specs.Bic.{IsBic}
use Rattle.corr_ids.specs.declared.bic.Bic.{Bic}
use Rattle.corr_ids.specs.declared.envelope.Envelope.{Envelope}
use Rattle.corr_money.specs.declared.amount.Amount.{Amount}
use Rattle.ref_tables.specs.Seen.{Tables, decimals_in, has_head, IsKnown}
use Rattle.fin_contents.specs.Money.{is_metal}
use Rattle.fin_contents.specs.Writing.{line_field}
use Rattle.fin_message.specs.Sound.{IsSaid, KeepsRules}
use Rattle.fin_message.specs.Verdict.{sent_verdict_of}
use Rattle.fin_message.specs.declared.message.Message.{Message}
use Rattle.fin_message.specs.declared.message.Message.TheVariants as message
use Rattle.mt103.specs.Codes.{is_charged}
use Rattle.mt103.specs.Message.{mt103_of}
use Rattle.mt103.specs.declared.message.Mt103.{Mt103}
use Rattle.mt103_rules.specs.Rules.{all_rules as rules_103}
use Rattle.mt202cov.specs.Message.{mt202cov_of}
use Rattle.mt202cov.specs.declared.message.Mt202Cov.{Mt202Cov}
use Rattle.mt9_advice.specs.Advice.{mt900_of, mt910_of, tests_900, tests_910}
use Rattle.mt9_advice.specs.declared.credit.Mt910.{Mt910}
use Rattle.mt9_advice.specs.declared.debit.Mt900.{Mt900}
use Rattle.day_model.specs.Chart.{Chart, IsChart}
use Rattle.corr_ids.specs.Kinds.{fee}
use Rattle.day_model.specs.Fit.{FitsAccounts}
use Rattle.day_model.specs.Shape.{HasShape, IsNumbered, IsReference}
use Rattle.day_model.specs.declared.account.Account.{Account}
use Rattle.day_model.specs.declared.pay.Mt.TheVariants.{Transfer, Cover}
use Rattle.day_model.specs.declared.pay.Order.{Order}
use Rattle.day_model.specs.declared.pay.Order.TheVariants as order
use Rattle.day_model.specs.declared.pay.Pay.{Pay}
use Rattle.day_model.specs.declared.pay.Skip.{Skip}
use Rattle.day_model.specs.Log.{most_entries}
use Rattle.advices.specs.Legs.{leg_account, leg_amount}
use Rattle.advices.specs.Messages.{order_fields}
use Rattle.advices.specs.Received.{fields_in}

-- the tables hold an amount's currency with its decimals, and it is no precious metal
pub record IsTabled (t : Tables) (a : Amount) : Type 0 where
  pub three : length a.ccy.0 ≡ 3
  pub known : decimals_in t a.ccy.0 ≡ Some a.decimals
  pub metal : is_metal a.ccy.0 ≡ false

-- ---- the premises

-- the text of a pay is that of this message, and the pay has its type; of an advice and of a page there is no pay
abbrev pub IsTextOf : Pay → Message → Type 0
IsTextOf pay (message.Transfer envelope text transfer) = (pay.mt ≡ Transfer) × (text ≡ pay.text)
IsTextOf pay (message.Cover envelope text cover) = (pay.mt ≡ Cover) × (text ≡ pay.text)
IsTextOf pay (message.Debit envelope advice) = ⊥
IsTextOf pay (message.Credit envelope advice) = ⊥
IsTextOf pay (message.Page envelope page) = ⊥

-- the amount of a message's 32A; a page has none, and zero stands in its place
abbrev pub amount_32a : Message → Amount
amount_32a (message.Transfer envelope text transfer) = transfer.amount
amount_32a (message.Cover envelope text cover) = cover.amount
amount_32a (message.Debit envelope advice) = advice.amount
amount_32a (message.Credit envelope advice) = advice.amount
amount_32a (message.Page envelope page) = record { ccy = page.ccy; minor = record { 0 = 0 }; decimals = page.decimals }

-- a message that passes the tests of its lines, its fields and its contents under these tables and breaks no rule, and
-- whose text the pay keeps
pub record WasReceivedAs (t : Tables) (pay : Pay) (m : Message) : Type 0 where
  pub said : IsSaid t m
  pub rules : KeepsRules t m
  pub kept : IsTextOf pay m

-- an account has the currency of an amount, with its decimals
pub record IsInMoney (account : Account) (a : Amount) : Type 0 where
  pub ccy : account.ccy ≡ a.ccy
  pub decimals : account.decimals ≡ a.decimals

-- a charge may be taken out of a transfer alone, by its 71A
abbrev pub may_be_charged : Message → Bool
may_be_charged (message.Transfer envelope text transfer) = is_charged transfer.charge
may_be_charged _ = false

-- a pay that came from a message: it fits the accounts and can be written down; each leg's account has the currency and the
-- decimals of 32A; a third leg is on an account for charges only where the message may be charged; and the tables hold the
-- sender's head
pub record CameFrom (t : Tables) (chart : Chart) (pay : Pay) (m : Message) : Type 0 where
  pub accounts : IsChart chart
  pub fits : FitsAccounts chart pay
  pub shape : HasShape pay
  pub received : WasReceivedAs t pay m
  pub money : (n : ℕ) (account : Account) → leg_account chart pay n ≡ Some account → IsInMoney account (amount_32a m)
  pub charged : (account : Account) → leg_account chart pay 3 ≡ Some account → account.kind ≡ fee → may_be_charged m ≡ true
  pub sender : has_head t (bank_of (sender_of pay.mir)).head ≡ true

-- the text of a pay is cut into the lines 20 and 21 alone, both references
pub record HasReferencesAlone (pay : Pay) : Type 0 where
  pub reference : List ℕ
  pub related : List ℕ
  pub fields : fields_in pay.text ≡ line_field 20 None reference ∷ line_field 21 None related ∷ []
  pub reference_is : IsReference reference
  pub related_is : IsReference related

-- a pay of the home bank's own, which came from no message: it fits the accounts and can be written down; its text has references
-- alone; the tables hold the currency of each leg's account, which is no precious metal, and the sender's head
pub record IsOwnPay (t : Tables) (chart : Chart) (pay : Pay) : Type 0 where
  pub accounts : IsChart chart
  pub fits : FitsAccounts chart pay
  pub shape : HasShape pay
  pub text : HasReferencesAlone pay
  pub money : (n : ℕ) (amount : Amount) → leg_amount chart pay n ≡ Some amount → IsTabled t amount
  pub sender : has_head t (bank_of (sender_of pay.mir)).head ≡ true

-- ---- the laws

-- the notice of a debit: its fields stand in their order and none is missing, each content passes its test, and so an
-- MT900 is read of them; it has no rules
abbrev pub DebitPasses : Type 0
DebitPasses =
    (t : Tables) (chart : Chart) (pay : Pay) (m : Message) (place k leg : ℕ) (to : Bic) → CameFrom t chart pay m → place ≤ most_entries → k ≤ 255 → IsNumbered (length pay.legs) leg
    → (first_of (tests_900 t (order_fields chart pay place k (order.Debit to leg))) ≡ None)
    × ((advice : Mt900) × (mt900_of t (order_fields chart pay place k (order.Debit to leg)) ≡ Ok advice))

-- the notice of a credit, which only a cover asks for: the same of an MT910, and its rule is kept, for it names the ordering
-- institution
abbrev pub CreditPasses : Type 0
CreditPasses =
    (t : Tables) (chart : Chart) (pay : Pay) (envelope : Envelope) (text : List ℕ) (cover : Mt202Cov) (place k leg : ℕ) (to : Bic) → CameFrom t chart pay (message.Cover envelope text cover)
    → place ≤ most_entries → k ≤ 255 → IsNumbered (length pay.legs) leg
    → (first_of (tests_910 t (order_fields chart pay place k (order.Credit to leg))) ≡ None)
    × ((advice : Mt910) × (mt910_of t (order_fields chart pay place k (order.Credit to leg)) ≡ Ok advice))

-- the transfer that a pay asks for which came from a transfer: it is read of its fields, whatever is left out, and breaks no rule
-- between any two banks
abbrev pub TransferReads : Type 0
TransferReads =
    (t : Tables) (chart : Chart) (pay : Pay) (envelope : Envelope) (text : List ℕ) (m : Mt103) (place k : ℕ) (to : Bic) (skip : Skip) (via : Option Bic) → CameFrom t chart pay (message.Transfer envelope text m)
    → place ≤ most_entries → k ≤ 255 → IfSome via (λ b. IsBic b × (has_head t b.head ≡ true)) → (sender receiver : Bic)
    → (sent : Mt103) × (mt103_of t (order_fields chart pay place k (order.Transfer to skip via)) ≡ Ok sent) × (first_of (rules_103 sender receiver t sent) ≡ None)

-- its cover is read of its fields, which asks for its rules too
abbrev pub CoverReads : Type 0
CoverReads =
    (t : Tables) (chart : Chart) (pay : Pay) (envelope : Envelope) (text : List ℕ) (m : Mt103) (place k : ℕ) (to end : Bic) (skip : Skip) → CameFrom t chart pay (message.Transfer envelope text m)
    → place ≤ most_entries → k ≤ 255 → IsBic end → has_head t end.head ≡ true → (sent : Mt202Cov) × (mt202cov_of t (order_fields chart pay place k (order.Cover to end skip)) ≡ Ok sent)

-- and so is a cover that is passed on, where the pay came from a cover
abbrev pub PassReads : Type 0
PassReads =
    (t : Tables) (chart : Chart) (pay : Pay) (envelope : Envelope) (text : List ℕ) (m : Mt202Cov) (place k : ℕ) (to : Bic) (skip : Skip) → CameFrom t chart pay (message.Cover envelope text m)
    → place ≤ most_entries → k ≤ 255 → (sent : Mt202Cov) × (mt202cov_of t (order_fields chart pay place k (order.Pass to skip)) ≡ Ok sent)

-- ---- whole messages

-- an order that a message may ask for, at banks whose heads the tables hold: a transfer asks for transfers and their covers, a
-- cover is passed on or told to the bank that it credits, and both are told to the bank that is debited
abbrev pub Asks : Tables → Message → Order → Type 0
Asks t (message.Transfer envelope text m) (order.Transfer to skip via) = IsKnown t to × IfSome via (IsKnown t)
Asks t (message.Transfer envelope text m) (order.Cover to end skip) = IsKnown t to × IsKnown t end
Asks t (message.Transfer envelope text m) (order.Debit to leg) = IsKnown t to
Asks t (message.Cover envelope text m) (order.Pass to skip) = IsKnown t to
Asks t (message.Cover envelope text m) (order.Debit to leg) = IsKnown t to
Asks t (message.Cover envelope text m) (order.Credit to leg) = IsKnown t to
Asks t _ _ = ⊥

-- a text that passes the tests of a message which the home bank sends
abbrev pub IsAccepted : Bic → Tables → List ℕ → Type 0
IsAccepted home t text = (said : Message) × (sent_verdict_of home t text ≡ Ok said)

-- a notice, to a bank whose head the tables hold
abbrev pub IsNotice : Tables → Order → Type 0
IsNotice t (order.Debit to leg) = IsKnown t to
IsNotice t (order.Credit to leg) = IsKnown t to
IsNotice t _ = ⊥

-- the messages that are sent of a pay: under tables under which it came from a message that asks for its orders, each is
-- accepted
abbrev pub AreAccepted : Chart → Pay → List (List ℕ) → Type 0
AreAccepted chart pay texts = (t : Tables) (m : Message) → CameFrom t chart pay m → All (Asks t m) pay.orders → All (IsAccepted chart.home t) texts

-- those of a pay of the home bank's own: under tables that hold its currencies and its sender's head, each is accepted where its
-- orders are notices alone, to banks whose heads they hold
abbrev pub NoticesAccepted : Chart → Pay → List (List ℕ) → Type 0
NoticesAccepted chart pay texts = (t : Tables) → IsOwnPay t chart pay → All (IsNotice t) pay.orders → All (IsAccepted chart.home t) texts
