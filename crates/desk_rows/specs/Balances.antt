-- The accounts and their balances.
use Rattle.std.specs.Prelude.{ℕ, List, [], ◌∷◌, ◌++◌, codes, ℤ}
use Rattle.corr_ids.specs.Bic.{bic_text}
use Rattle.corr_report.specs.Lines.{numbered}
use Rattle.day_model.specs.Balance.{balance_of, credits_of, debits_of}
use Rattle.day_model.specs.Chart.{Chart, accounts_of}
use Rattle.day_model.specs.declared.account.Account.{Account}
use Rattle.day_model.specs.declared.entry.Entry.{Entry}
use Rattle.desk_rows.specs.Csv.{commaed, pointed, row_end, signed_pointed}

-- whose the account is: its id, kind, owner and currency
abbrev pub name_cells : Account → List ℕ
name_cells account = account.id ++ commaed ((account.kind ∷ []) ∷ bic_text account.owner ∷ account.ccy.0 ∷ [])

-- its floor, ceiling and opening
abbrev pub limit_cells : Account → List ℕ
limit_cells account =
    commaed (signed_pointed account.decimals account.floor ∷ signed_pointed account.decimals account.ceil ∷ signed_pointed account.decimals account.opening ∷ [])

-- the columns of an account as the table of accounts has them, its amounts with a point
abbrev pub account_cells : Account → List ℕ
account_cells account = name_cells account ++ limit_cells account

-- what was debited and credited, the balance, and the end of the row
abbrev pub total_cells : ℕ → ℕ → ℕ → ℤ → List ℕ
total_cells decimals debits credits balance =
    commaed (pointed decimals debits ∷ pointed decimals credits ∷ signed_pointed decimals balance ∷ []) ++ row_end

-- the row of an account
abbrev pub account_row : Account → ℕ → ℕ → ℤ → List ℕ
account_row account debits credits balance = account_cells account ++ total_cells account.decimals debits credits balance

-- the names of the columns
abbrev pub balance_header : List ℕ
balance_header = codes "id,kind,owner,currency,floor,ceiling,opening,debits,credits,balance" ++ row_end

-- the row of the account with a number after these entries
abbrev pub row_of : Chart → List Entry → ℕ → Account → List ℕ
row_of chart entries n account = account_row account (debits_of entries n) (credits_of entries n) (balance_of chart entries n)

-- a header, and a row for each account, in the order of their numbers
abbrev pub balance_rows : Chart → List Entry → List ℕ
balance_rows chart entries = balance_header ++ numbered (row_of chart entries) 1 (accounts_of chart)
