-- The summary of a history.
use Rattle.std.specs.Prelude.{ℕ, List, [], ◌∷◌, ◌++◌, length, codes, ℤ}
use Rattle.corr_money.specs.Amounts.{signed_text}
use Rattle.day_model.specs.Balance.{balance_of}
use Rattle.day_model.specs.Chart.{Chart, accounts_of}
use Rattle.day_model.specs.declared.account.Account.{Account}
use Rattle.day_model.specs.declared.entry.Entry.{Entry}
use Rattle.corr_report.specs.Lines.{line, numbered}
use Rattle.corr_report.specs.Report.{count_line}
use Rattle.corr_report.specs.Totals.{total_lines}

-- `BALANCE VALPHEUR 49999,25`
abbrev pub balance_line : ℤ → Account → List ℕ
balance_line balance account = line (codes "BALANCE") (account.id ∷ signed_text account.decimals balance ∷ [])

-- a line for each account, in the order of their numbers
abbrev pub balances_of : Chart → List Entry → List ℕ
balances_of chart entries = numbered (λ n. balance_line (balance_of chart entries n)) 1 (accounts_of chart)

-- the counts, with one message for each entry, the totals of each currency, and the balances
abbrev pub summary_of : Chart → List Entry → List ℕ
summary_of chart entries = count_line (length entries) (length entries) ++ total_lines chart entries ++ balances_of chart entries
