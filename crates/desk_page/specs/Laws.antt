-- What holds of every page.
use Rattle.std.specs.Prelude.{◌≡◌, All, List, filter, length}
use Rattle.day_model.specs.Chart.{is_same_ccy}
use Rattle.day_model.specs.declared.account.Account.{Account}
use Rattle.desk_page.specs.AccountTable.{ccys_of}
use Rattle.desk_page.specs.declared.row.Row.{Row}
use Rattle.desk_page.specs.Groups.{all_groups, is_in}
use Rattle.desk_page.specs.Tally.{count_of}

-- a message stands in one group of the page alone
abbrev pub StandsOnce : Row → Type 0
StandsOnce row = length (filter (λ group. is_in group row) all_groups) ≡ 1

-- so it is of each message
abbrev pub EachStandsOnce : Type 0
EachStandsOnce = (row : Row) → StandsOnce row

-- an account stands in the table of one currency alone
abbrev pub AccountStandsOnce : List Account → Account → Type 0
AccountStandsOnce accounts account = count_of is_same_ccy account.ccy (ccys_of accounts) ≡ 1

-- so it is of each account
abbrev pub EachAccountOnce : Type 0
EachAccountOnce = (accounts : List Account) → All (AccountStandsOnce accounts) accounts
