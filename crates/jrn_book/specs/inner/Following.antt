-- Which items may stand next in a journal.
use Rattle.std.specs.Prelude.{◌≡◌, ◌<◌, ℤ, pos, IsTrue, List, length, None}
use Rattle.day_model.specs.declared.change.What.{What}
use Rattle.day_model.specs.declared.change.What.TheVariants.{Opened, Limits}
use Rattle.day_model.specs.declared.entry.Entry.{Entry}
use Rattle.day_model.specs.Balance.{balance_of, outcome_of}
use Rattle.day_model.specs.Changes.{most_changes}
use Rattle.day_model.specs.Chart.{Chart, accounts_of}
use Rattle.day_model.specs.Fit.{FitsAccounts, is_in}
use Rattle.day_model.specs.Laws.{IsLatest}
use Rattle.day_model.specs.Legal.{IsLegalChange, balance_named}
use Rattle.day_model.specs.Log.{most_entries}
use Rattle.day_model.specs.Next.{entered_at}

-- what an entry meets that may stand next
pub record MayStandNext (chart : Chart) (history : List Entry) (e : Entry) : Type 0 where
  pub few : length history < most_entries
  pub fits : FitsAccounts chart e.pay
  pub new : entered_at e.pay.mir history ≡ None
  pub latest : IsLatest history e.day
  pub decided : e.outcome ≡ outcome_of chart history e.pay

-- what a change meets that may come next
pub record MayComeNext (chart : Chart) (history : List Entry) (what : What) : Type 0 where
  pub few : length chart.changes < most_changes
  pub legal : IsLegalChange (accounts_of chart) (balance_named (balance_of chart history) what) what

-- the balance of the account that limits name, where it is there; 0 for a new account
abbrev pub IsBalanceFor : Chart → List Entry → What → ℤ → Type 0
IsBalanceFor chart history (Opened account) balance = balance ≡ pos 0
IsBalanceFor chart history (Limits n floor ceil) balance = IsTrue (is_in (accounts_of chart) n.0) → balance ≡ balance_of chart history n.0
