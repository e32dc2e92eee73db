-- The legs of a pay, with their accounts.
use Rattle.std.specs.Prelude.{ℕ, ◌-◌, ◌==◌, Option, None, option_map, option_and_then, slice_get, if◌then◌else◌}
use Rattle.corr_money.specs.declared.amount.Amount.{Amount}
use Rattle.day_model.specs.Chart.{Chart, account_at}
use Rattle.corr_ids.specs.Kinds.{fee}
use Rattle.day_model.specs.Fit.{side_sum}
use Rattle.day_model.specs.declared.account.Account.{Account}
use Rattle.day_model.specs.declared.pay.Leg.{Leg}
use Rattle.day_model.specs.declared.pay.Pay.{Pay}
use Rattle.day_model.specs.declared.pay.Side.TheVariants.{Debit}
use Rattle.fin_contents.specs.declared.value.Value.{Value}

-- the account of leg n, from 1
abbrev pub leg_account : Chart → Pay → ℕ → Option Account
leg_account chart pay n = option_and_then (λ leg. account_at chart leg.account.0) (slice_get pay.legs (n - 1))

-- a leg's amount in the currency of its account
abbrev pub amount_on : Leg → Account → Amount
amount_on leg account = record { ccy = account.ccy; minor = leg.amount; decimals = account.decimals }

-- the amount of leg n
abbrev pub leg_amount : Chart → Pay → ℕ → Option Amount
leg_amount chart pay n = option_and_then (λ leg. option_map (amount_on leg) (account_at chart leg.account.0)) (slice_get pay.legs (n - 1))

-- the sum of the debit legs, in the currency of the first leg
abbrev pub debited_amount : Chart → Pay → Option Amount
debited_amount chart pay =
    option_map (λ account. record { ccy = account.ccy; minor = record { 0 = side_sum Debit pay.legs }; decimals = account.decimals }) (leg_account chart pay 1)

-- the charge that a pay takes: the amount of a third leg on an account for charges, none where there is no such leg
abbrev pub charge_of : Chart → Pay → Option Amount
charge_of chart pay = option_and_then (λ account. if account.kind == fee then leg_amount chart pay 3 else None) (leg_account chart pay 3)

-- an amount on the value date: what 32A says
abbrev pub value_of_pay : Pay → Amount → Value
value_of_pay pay amount = record { day = pay.value; amount = amount }
