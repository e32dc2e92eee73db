-- A charge is booked on neither account of its route, none of which is one of fees.
use Rattle.std.proofs.Common.{◌≡◌, ◌≢◌, ℕ, false, true, IfSome, List, Option, Some, None, Ok, refl, subst}
use Rattle.std.specs.Option.{option_map_or}
use Rattle.std.proofs.lemmas.Bool.{and_parts}
use Rattle.corr_ids.specs.declared.envelope.Envelope.{Envelope}
use Rattle.corr_money.specs.declared.amount.Amount.{Amount}
use Rattle.day_model.specs.declared.account.Account.{Account}
use Rattle.day_model.specs.declared.account.AcctNo.{AcctNo}
use Rattle.day_model.specs.Chart.{Chart, account_at}
use Rattle.corr_ids.specs.Kinds.{fee}
use Rattle.day_model.specs.Fit.{is_listed}
use Rattle.ssi_versions.specs.declared.row.SsiRow.{SsiRow}
use Rattle.routing.specs.Accounts.{AreBetween, fits_amount, fits_at}
use Rattle.routing.specs.declared.routed.Routed.{Routed}
use Rattle.routing.proofs.laws.Routes.{AreNoFees, route-no-fees}
use Rattle.pay_plan.specs.declared.charging.Charge.{Charge}
use Rattle.pay_plan.specs.Asked.{Asked}
use Rattle.pay_plan.specs.Charging.{AreCharged, IsApart, IsTaken}
use Rattle.pay_plan.specs.Plan.{route_asked}
use Rattle.pay_plan.proofs.Fitting.{with_charge}

there-is : (amount : Amount) (o : Option Account) → option_map_or (fits_amount amount) o false ≡ true → (x : Account) × (o ≡ Some x)
there-is amount (Some x) fits = (x, refl)
there-is amount None fits = absurd (cc fits)

-- an account that fits is there
account-there : (chart : Chart) (amount : Amount) (n : AcctNo) → fits_at chart amount n ≡ true → (x : Account) × (account_at chart n.0 ≡ Some x)
account-there chart amount n fits =
    there-is amount (account_at chart n.0) (and_parts (is_listed chart n.0) (option_map_or (fits_amount amount) (account_at chart n.0) false) fits).1

-- an account of fees isn't one that is none of fees
other-account : (chart : Chart) (n m : ℕ) (x : Account) → account_at chart n ≡ Some x → x.kind ≡ fee → ((y : Account) → account_at chart m ≡ Some y → y.kind ≢ fee) → n ≢ m
other-account chart n m x at is none = λ same. none x (subst (λ (k : ℕ). account_at chart k ≡ Some x) same at) is

apart : (chart : Chart) (amount : Amount) (routed : Routed) (charge : Option Charge) → AreNoFees chart routed → IfSome charge (IsTaken chart amount) → IfSome charge (IsApart routed)
apart chart amount routed None none taken = tt
apart chart amount routed (Some c) none taken =
    let x = account-there chart amount c.account taken.fits in
    let is = taken.kind x.0 x.1 in
    record {
      debit = other-account chart c.account.0 routed.debit.0 x.0 x.1 is none.debit;
      credit = other-account chart c.account.0 routed.credit.0 x.0 x.1 is none.credit;
    }

-- a route and the charge that is taken out of what goes by it
pub charged-are : (env : Envelope) (asked : Asked) (rows : List SsiRow) (chart : Chart) (routed : Routed) (charge : Option Charge) → route_asked env asked rows chart ≡ Ok routed
    → AreBetween chart asked.amount routed → IfSome charge (IsTaken chart asked.amount) → AreCharged chart asked.amount (with_charge routed charge)
charged-are env asked rows chart routed charge found between taken =
    let none = route-no-fees env.sender asked.amount asked.value asked.cover asked.target rows chart routed found in
    record { between = between; taken = taken; apart = apart chart asked.amount routed charge none taken }
