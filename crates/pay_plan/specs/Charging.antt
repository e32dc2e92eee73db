-- What is taken out of a transfer as a charge, and for whom.
use Rattle.std.specs.Prelude.{◌≡◌, ◌≢◌, ℕ, ◌<◌, Bool, false, IfSome, IsTrue, List, nat_lt, Option, Some, None, Result, Ok, if◌then◌else◌}
use Rattle.corr_text.specs.Codes.{code}
use Rattle.corr_text.specs.First.{check, or_fault, ◌>>=◌}
use Rattle.corr_text.specs.declared.fault.Code.{Code}
use Rattle.corr_money.specs.declared.amount.Amount.{Amount}
use Rattle.corr_money.specs.declared.amount.Minor.{Minor}
use Rattle.day_model.specs.declared.account.Account.{Account}
use Rattle.day_model.specs.Chart.{Chart, account_at}
use Rattle.corr_ids.specs.Kinds.{fee}
use Rattle.ref_tables.specs.Seen.{charge_in}
use Rattle.mt103.specs.Codes.{is_charged}
use Rattle.routing.specs.Accounts.{AreBetween, account_with, fits_at}
use Rattle.routing.specs.declared.routed.Routed.{Routed}
use Rattle.pay_plan.specs.declared.ask.Ask.{Ask}
use Rattle.pay_plan.specs.declared.ask.Ask.TheVariants.{Transfer, Cover}
use Rattle.pay_plan.specs.declared.charging.Charge.{Charge}
use Rattle.pay_plan.specs.declared.charging.Charged.{Charged}
use Rattle.pay_plan.specs.Asked.{amount_in}

-- the charges of a currency's code
abbrev pub ChargeRows : Type 0
ChargeRows = List (List ℕ × Minor)

-- whether a charge may be taken out of a message: a transfer whose charges aren't the payer's
abbrev pub may_be_charged : Ask → Bool
may_be_charged (Transfer m) = is_charged m.now.charge
may_be_charged (Cover m) = false

-- what a message is charged: where it may be charged, what its currency's row says, if there is one
abbrev pub charge_asked : Ask → ChargeRows → Option Minor
charge_asked ask charges = if may_be_charged ask then charge_in charges (amount_in ask).ccy.0 else None

-- a charge is below the amount (P39), and is booked on the account of fees that fits the amount (P40)
abbrev pub charge_on : Amount → Chart → Option Minor → Result (Option Charge) Code
charge_on amount chart None = Ok None
charge_on amount chart (Some charge) = do
  _ ← check (nat_lt charge.0 amount.minor.0) (code "P39")
  n ← or_fault (account_with fee chart.home amount chart) (code "P40")
  Ok (Some (record { account = n; amount = charge }))

-- the charge of a message
abbrev pub charge_of : Ask → ChargeRows → Chart → Result (Option Charge) Code
charge_of ask charges chart = charge_on (amount_in ask) chart (charge_asked ask charges)

-- a charge that can be taken out of an amount, booked on an account of fees that fits it
pub record IsTaken (chart : Chart) (amount : Amount) (charge : Charge) : Type 0 where
  pub above : 0 < charge.amount.0
  pub below : charge.amount.0 < amount.minor.0
  pub fits : IsTrue (fits_at chart amount charge.account)
  pub kind : (a : Account) → account_at chart charge.account.0 ≡ Some a → a.kind ≡ fee

-- a charge is booked on neither account of a route
pub record IsApart (routed : Routed) (charge : Charge) : Type 0 where
  pub debit : charge.account.0 ≢ routed.debit.0
  pub credit : charge.account.0 ≢ routed.credit.0

-- two accounts between which an amount goes, and the charge that is taken out of it, on a third
pub record AreCharged (chart : Chart) (amount : Amount) (charged : Charged) : Type 0 where
  pub between : AreBetween chart amount charged.routed
  pub taken : IfSome charged.charge (IsTaken chart amount)
  pub apart : IfSome charged.charge (IsApart charged.routed)
