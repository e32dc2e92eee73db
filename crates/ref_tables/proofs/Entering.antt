-- Accounts entered so far.
use Rattle.std.proofs.Common.{ℕ, ◌≤◌, List}
use Rattle.std.specs.List.{All}
use Rattle.ref_tables.specs.declared.account.AccountRow.{AccountRow}
use Rattle.ref_tables.specs.Accounts.{account_fault, account_of}
use Rattle.ref_tables.specs.Rows.{Cells}
use Rattle.ref_tables.specs.Seen.{Tables}
use Rattle.ref_tables.proofs.laws.Entered.{Entered}

-- the rows before a place are entered as accounts, each of a currency of the table
pub record Entering (home : List ℕ) (t : Tables) (rows : List Cells) (i : ℕ) (accounts : List AccountRow) : Type 0 where
  pub entered : Entered (account_of t) (account_fault home t) rows i accounts
  pub few_decimals : All (λ a. a.decimals ≤ 4) accounts
