-- The legs of a plan fit the accounts.
use Rattle.std.proofs.Common.{◌≡◌, ◌≢◌, ℕ, ◌+◌, ◌-◌, ◌<◌, true, false, IfSome, Option, Some, None, refl, sym, ◌∙◌, arith, eqb, ltb, eq-eqb}
use Rattle.std.specs.Prelude.{not, ◌&&◌}
use Rattle.std.specs.Option.{option_map_or}
use Rattle.std.proofs.lemmas.Bool.{and_parts, lt-ltb, ne_eqb}
use Rattle.std.proofs.lemmas.Slice.Eq.{bytes_eq-Decides}
use Rattle.corr_money.specs.Amounts.{amount_end}
use Rattle.corr_money.specs.declared.amount.Amount.{Amount}
use Rattle.day_model.specs.declared.account.Account.{Account}
use Rattle.day_model.specs.Chart.{Chart, account_at, accounts_of, is_same_ccy}
use Rattle.day_model.specs.Fit.{account_in, are_legs, is_listed, legs_fit, same_ccy}
use Rattle.fin_contents.specs.Money.{IsPayable}
use Rattle.routing.specs.Accounts.{AreBetween, fits_amount}
use Rattle.routing.specs.declared.routed.Routed.{Routed}
use Rattle.pay_plan.specs.Asked.{Asked}
use Rattle.pay_plan.specs.Charging.{AreCharged, IsApart, IsTaken}
use Rattle.pay_plan.specs.declared.charging.Charge.{Charge}
use Rattle.pay_plan.specs.declared.charging.Charged.{Charged}
use Rattle.pay_plan.specs.declared.way.Way.{Way}
use Rattle.pay_plan.specs.Pay.{legs_of}

-- ---- they are legs of a pay

-- as much is debited as credited
as-much : (n : ℕ) → eqb (0 + n + 0) (0 + 0 + n) ≡ true
as-much n = eq-eqb (0 + n + 0) (0 + 0 + n) (omega arith)

-- the rest and the charge are the whole
as-much-charged : (n charge : ℕ) → charge < n → eqb (0 + n + 0 + 0) (0 + 0 + (n - charge) + charge) ≡ true
as-much-charged n charge below = eq-eqb (0 + n + 0 + 0) (0 + 0 + (n - charge) + charge) (omega (arith, below))

-- a route with a charge
abbrev pub with_charge : Routed → Option Charge → Charged
with_charge routed charge = record { routed = routed; charge = charge }

-- a debit, a credit and the charge, on distinct accounts
legs-by : (way : Way) (asked : Asked) (routed : Routed) (charge : Option Charge) (chart : Chart) → routed.debit.0 ≢ routed.credit.0 → IfSome charge (IsTaken chart asked.amount) → IfSome charge (IsApart routed)
    → IsPayable asked.amount → are_legs (legs_of way asked (with_charge routed charge)) ≡ true
legs-by way asked routed None chart distinct taken apart amount =
    let n = asked.amount.minor.0 in
    let above : ltb 0 n ≡ true = lt-ltb 0 n amount.above in
    let below : ltb n amount_end ≡ true = lt-ltb n amount_end amount.below in
    let two : eqb routed.debit.0 routed.credit.0 ≡ false = ne_eqb routed.debit.0 routed.credit.0 distinct in
    rw (above, below, two, as-much n) refl
legs-by way asked routed (Some charge) chart distinct taken apart amount =
    let n = asked.amount.minor.0 in
    let k = charge.amount.0 in
    let above : ltb 0 n ≡ true = lt-ltb 0 n amount.above in
    let below : ltb n amount_end ≡ true = lt-ltb n amount_end amount.below in
    let rest_above : ltb 0 (n - k) ≡ true = lt-ltb 0 (n - k) (omega (arith, taken.below)) in
    let rest_below : ltb (n - k) amount_end ≡ true = lt-ltb (n - k) amount_end (omega (arith, amount.below)) in
    let charge_above : ltb 0 k ≡ true = lt-ltb 0 k taken.above in
    let charge_below : ltb k amount_end ≡ true = lt-ltb k amount_end (omega (arith, taken.below, amount.below)) in
    let two : eqb routed.debit.0 routed.credit.0 ≡ false = ne_eqb routed.debit.0 routed.credit.0 distinct in
    let one_three : eqb routed.debit.0 charge.account.0 ≡ false = ne_eqb routed.debit.0 charge.account.0 (λ same. apart.debit (sym same)) in
    let two_three : eqb routed.credit.0 charge.account.0 ≡ false = ne_eqb routed.credit.0 charge.account.0 (λ same. apart.credit (sym same)) in
    rw (above, below, rest_above, rest_below, charge_above, charge_below, two, one_three, two_three, as-much-charged n k taken.below) refl

pub legs-are : (way : Way) (asked : Asked) (charged : Charged) (chart : Chart) → AreCharged chart asked.amount charged → IsPayable asked.amount → are_legs (legs_of way asked charged) ≡ true
legs-are way asked charged chart are amount = legs-by way asked charged.routed charged.charge chart are.between.distinct are.taken are.apart amount

-- ---- on accounts of one currency

-- accounts that fit one amount have its currency
one-ccy : (amount : Amount) (o p : Option Account) → option_map_or (fits_amount amount) o false ≡ true → option_map_or (fits_amount amount) p false ≡ true → same_ccy o p ≡ true
one-ccy amount (Some a) (Some b) first second =
    let one = (bytes_eq-Decides a.ccy.0 amount.ccy.0).0 (and_parts (is_same_ccy a.ccy amount.ccy) (eqb a.decimals amount.decimals) first).0 in
    let other = (bytes_eq-Decides b.ccy.0 amount.ccy.0).0 (and_parts (is_same_ccy b.ccy amount.ccy) (eqb b.decimals amount.decimals) second).0 in
    (bytes_eq-Decides a.ccy.0 b.ccy.0).1 (one ∙ sym other)
one-ccy amount (Some a) None first second = absurd (cc second)
one-ccy amount None p first second = absurd (cc first)

fit-by : (chart : Chart) (way : Way) (asked : Asked) (routed : Routed) (charge : Option Charge) → AreBetween chart asked.amount routed → IfSome charge (IsTaken chart asked.amount)
    → are_legs (legs_of way asked (with_charge routed charge)) ≡ true → legs_fit chart (legs_of way asked (with_charge routed charge)) ≡ true
fit-by chart way asked routed None between taken are =
    let d = routed.debit.0 in
    let c = routed.credit.0 in
    let ccy = and_parts (is_listed chart d && is_listed chart c && not (eqb d c)) (same_ccy (account_in (accounts_of chart) d) (account_in (accounts_of chart) c)) between.fit in
    let apart = and_parts (is_listed chart d && is_listed chart c) (not (eqb d c)) ccy.0 in
    let there = and_parts (is_listed chart d) (is_listed chart c) apart.0 in
    rw (are, there.0, there.1, ccy.1) refl
fit-by chart way asked routed (Some charge) between taken are =
    let d = routed.debit.0 in
    let c = routed.credit.0 in
    let n = charge.account.0 in
    let ccy = and_parts (is_listed chart d && is_listed chart c && not (eqb d c)) (same_ccy (account_in (accounts_of chart) d) (account_in (accounts_of chart) c)) between.fit in
    let apart = and_parts (is_listed chart d && is_listed chart c) (not (eqb d c)) ccy.0 in
    let there = and_parts (is_listed chart d) (is_listed chart c) apart.0 in
    let first = and_parts (is_listed chart d) (option_map_or (fits_amount asked.amount) (account_at chart d) false) between.debit in
    let third = and_parts (is_listed chart n) (option_map_or (fits_amount asked.amount) (account_at chart n) false) taken.fits in
    let same : same_ccy (account_in (accounts_of chart) d) (account_in (accounts_of chart) n) ≡ true = one-ccy asked.amount (account_at chart d) (account_at chart n) first.1 third.1 in
    rw (are, there.0, there.1, ccy.1, third.0, same) refl

pub legs-fit : (chart : Chart) (way : Way) (asked : Asked) (charged : Charged) → AreCharged chart asked.amount charged → IsPayable asked.amount → legs_fit chart (legs_of way asked charged) ≡ true
legs-fit chart way asked charged are amount =
    fit-by chart way asked charged.routed charged.charge are.between are.taken (legs-are way asked charged chart are amount)
