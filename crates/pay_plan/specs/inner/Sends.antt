-- What a pay sends, and between which accounts it is booked, under the tables by which its message was read.
use Rattle.std.specs.Prelude.{◌≡◌, ℕ, All, IfSome, IsTrue, List, Some, slice_get}
use Rattle.corr_ids.specs.declared.envelope.Envelope.{Envelope}
use Rattle.ref_tables.specs.Seen.{Tables, IsKnown}
use Rattle.day_model.specs.Chart.{Chart, account_at}
use Rattle.corr_ids.specs.Kinds.{fee}
use Rattle.day_model.specs.declared.account.Account.{Account}
use Rattle.day_model.specs.declared.pay.Leg.{Leg}
use Rattle.day_model.specs.declared.pay.Mt.{Mt}
use Rattle.day_model.specs.declared.pay.Mt.TheVariants as mt
use Rattle.day_model.specs.declared.pay.Order.{Order}
use Rattle.day_model.specs.declared.pay.Order.TheVariants as order
use Rattle.day_model.specs.declared.pay.Pay.{Pay}
use Rattle.routing.specs.Accounts.{fits_amount}
use Rattle.pay_plan.specs.declared.ask.Ask.{Ask}
use Rattle.pay_plan.specs.Asked.{amount_in, asked_of}
use Rattle.pay_plan.specs.Charging.{may_be_charged}
use Rattle.pay_plan.specs.Plan.{mir_of_envelope}

-- an order that follows a message of a type, at banks whose heads the tables hold: a transfer is followed by transfers and their
-- covers, a cover is passed on or told to the bank that it credits, and both are told to the bank that is debited
abbrev pub FollowsMessage : Tables → Mt → Order → Type 0
FollowsMessage t mt.Transfer (order.Transfer to skip via) = IsKnown t to × IfSome via (IsKnown t)
FollowsMessage t mt.Transfer (order.Cover to end skip) = IsKnown t to × IsKnown t end
FollowsMessage t mt.Transfer (order.Debit to leg) = IsKnown t to
FollowsMessage t mt.Cover (order.Pass to skip) = IsKnown t to
FollowsMessage t mt.Cover (order.Debit to leg) = IsKnown t to
FollowsMessage t mt.Cover (order.Credit to leg) = IsKnown t to
FollowsMessage t _ _ = ⊥

-- a leg that books the charge of a transfer under SHA or BEN, on an account of fees
pub record IsChargeOf (chart : Chart) (ask : Ask) (leg : Leg) : Type 0 where
  pub asked : IsTrue (may_be_charged ask)
  pub kind : (x : Account) → account_at chart leg.account.0 ≡ Some x → x.kind ≡ fee

-- the pay of a message: it keeps reference, type and text; the account of each leg has the currency and the decimals of the amount
-- that is asked for; a third leg is a charge; and its orders follow the message
pub record IsPayOf (t : Tables) (chart : Chart) (env : Envelope) (text : List ℕ) (ask : Ask) (pay : Pay) : Type 0 where
  pub mir_is : pay.mir ≡ mir_of_envelope env
  pub mt_is : pay.mt ≡ (asked_of chart.home ask).mt
  pub text_is : pay.text ≡ text
  pub accounts : (n : ℕ) (leg : Leg) (x : Account) → slice_get pay.legs n ≡ Some leg → account_at chart leg.account.0 ≡ Some x → IsTrue (fits_amount (amount_in ask) x)
  pub charge : (leg : Leg) → slice_get pay.legs 2 ≡ Some leg → IsChargeOf chart ask leg
  pub orders : All (FollowsMessage t (asked_of chart.home ask).mt) pay.orders
