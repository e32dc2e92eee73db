-- The commands `statements` and `customer-statements`: what the owners of accounts are sent of a day.
use Rattle.std.specs.Prelude.{◌≡◌, ℕ, ◌+◌, ◌++◌, true, List, Some}
use Rattle.corr_ids.specs.Bic.{IsBic}
use Rattle.corr_ids.specs.Day.{InCentury}
use Rattle.corr_ids.specs.declared.day.Day.{Day}
use Rattle.day_model.specs.Chart.{Chart, account_at}
use Rattle.day_model.specs.declared.account.Account.{Account}
use Rattle.day_model.specs.declared.entry.Entry.{Entry}
use Rattle.statement.specs.Index.{IsIndexOf}
use Rattle.statement.specs.Valid.{AreShaped}
use Rattle.statement.specs.declared.index.HistoryIndex.{HistoryIndex}
use Rattle.corr_top.specs.declared.owners.Owners.{Owners}
use Rattle.corr_top.specs.Statements.{is_theirs, pages_sent, IsStatementOfDay}

-- an index is that of these entries, whose statements of a day can be printed
pub record MayPrint (index : HistoryIndex) (chart : Chart) (day : Day) (entries : List Entry) : Type 0 where
  pub is : IsIndexOf index (record { chart = chart; entries = entries })
  pub shaped : AreShaped entries
  pub home : IsBic chart.home
  pub century : InCentury day

-- what is sent of account n is added to what was there, and is its statement
pub record Adds (owners : Owners) (chart : Chart) (entries : List Entry) (day : Day) (n : ℕ) (old new : List ℕ) : Type 0 where
  pub text : (account : Account) → account_at chart n ≡ Some account → new ≡ old ++ pages_sent owners chart entries day n account
  pub valid : (account : Account) → account_at chart n ≡ Some account → is_theirs owners account ≡ true → IsStatementOfDay owners chart entries day n
