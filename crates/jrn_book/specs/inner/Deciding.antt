-- Decisions by the totals of accounts.
use Rattle.std.specs.Prelude.{ℕ, Option}
use Rattle.corr_text.specs.First.{unless}
use Rattle.day_model.specs.declared.pay.Leg.{Leg}
use Rattle.day_model.specs.declared.entry.Outcome.{Outcome}
use Rattle.day_model.specs.declared.entry.Outcome.TheVariants.{Unfunded}
use Rattle.day_model.specs.Balance.{changed, is_within}
use Rattle.day_model.specs.Chart.{Chart, account_at}
use Rattle.day_model.specs.Totals.{Pair, balance_with}

-- leg k must leave its account within floor and ceiling, whose totals these are
abbrev pub leg_test_by : Chart → Pair → ℕ → Leg → Option Outcome
leg_test_by chart totals k leg =
    let balance = balance_with chart leg.account.0 totals in
    unless (is_within (account_at chart leg.account.0) (changed leg.side leg.amount.0 balance)) (Unfunded k balance)
