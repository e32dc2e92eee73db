-- What passing a step of a command means, and how it stops there.
use Rattle.std.specs.Prelude.{◌≤◌}
use Rattle.corr_money.specs.Amounts.{most_decimals}
use Rattle.day_model.specs.declared.fault.AccountsFault.{AccountsFault}
use Rattle.day_model.specs.declared.fault.AccountsFault.TheVariants as refused

-- the decimals that a refusal of accounts tells are at most 4
abbrev pub TellsDecimals : AccountsFault → Type 0
TellsDecimals (refused.Unbalanced ccy decimals sum) = decimals ≤ most_decimals
TellsDecimals refused.Memory = Unit {0}
