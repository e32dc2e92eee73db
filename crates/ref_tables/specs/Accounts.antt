-- The table of accounts: what its rows say, and its first fault.
use Rattle.std.specs.Prelude.{ℕ, ◌==◌, ◌&&◌, ◌||◌, Bool, not, List, [], ◌∷◌, take, Option, option_map, unwrap_or, is_some, nat_lt, ℤ, pos, int_le, unsigned_abs, if◌then◌else◌}
use Rattle.std.specs.Option.{option_or}
use Rattle.std.specs.Str.{bytes_eq}
use Rattle.corr_text.specs.First.{first_of, unless}
use Rattle.corr_ids.specs.Bic.{is_bic, branch_of}
use Rattle.corr_ids.specs.Kinds.{customer, fee}
use Rattle.corr_money.specs.Amounts.{amount_end}
use Rattle.ref_tables.specs.Columns.{is_ccy, is_account_id, kind_in_cell, signed_of}
use Rattle.ref_tables.specs.Rows.{Cells, cell, most_rows}
use Rattle.ref_tables.specs.Refusals.{against, columns, value, double, first_fault}
use Rattle.ref_tables.specs.Seen.{Tables, has_head, decimals_in}
use Rattle.ref_tables.specs.declared.account.AccountRow.{AccountRow}
use Rattle.ref_tables.specs.declared.fault.Why.{Why}
use Rattle.ref_tables.specs.declared.fault.Why.TheVariants as why

-- the account that a row says: id, kind, owner, currency, floor, ceiling, opening; the currency's decimals are the table's
abbrev pub account_of : Tables → Cells → AccountRow
account_of t row = record {
  id = cell 0 row;
  kind = unwrap_or (kind_in_cell (cell 1 row)) 0;
  owner = record { head = take 8 (cell 2 row); branch = branch_of (cell 2 row) };
  ccy = record { 0 = cell 3 row };
  decimals = unwrap_or (decimals_in t (cell 3 row)) 0;
  floor = unwrap_or (signed_of (cell 4 row)) (pos 0);
  ceil = unwrap_or (signed_of (cell 5 row)) (pos 0);
  opening = unwrap_or (signed_of (cell 6 row)) (pos 0);
}

-- each column has its form
abbrev pub form_fault : Cells → Option Why
form_fault row = first_of (
    columns 7 row
    ∷ value 1 (is_account_id (cell 0 row))
    ∷ value 2 (is_some (kind_in_cell (cell 1 row)))
    ∷ value 3 (is_bic (cell 2 row))
    ∷ value 4 (is_ccy (cell 3 row))
    ∷ value 5 (is_some (signed_of (cell 4 row)))
    ∷ value 6 (is_some (signed_of (cell 5 row)))
    ∷ value 7 (is_some (signed_of (cell 6 row)))
    ∷ [])

-- V, N and F accounts of one kind, one owner (by head) and one currency
abbrev pub same_relation : AccountRow → AccountRow → Bool
same_relation a b = not (a.kind == customer) && (a.kind == b.kind) && bytes_eq a.owner.head b.owner.head && bytes_eq a.ccy.0 b.ccy.0

-- two accounts that a table can't both have
abbrev pub clashes : AccountRow → AccountRow → Bool
clashes a b = bytes_eq a.id b.id || same_relation a b

-- the kinds of the accounts that the home bank owns
abbrev pub is_home_kind : ℕ → Bool
is_home_kind kind = (kind == customer) || (kind == fee)

-- a customer's account and one of fees are owned by the home bank, a vostro or nostro account by another bank
abbrev pub owner_fits : List ℕ → AccountRow → Bool
owner_fits home a = if is_home_kind a.kind then bytes_eq a.owner.head home else not (bytes_eq a.owner.head home)

-- a balance below 10^14 in size
abbrev pub is_balance : ℤ → Bool
is_balance z = nat_lt (unsigned_abs z) amount_end

-- floor ≤ opening ≤ ceiling, each a balance
abbrev pub within_limits : AccountRow → Bool
within_limits a = is_balance a.floor && is_balance a.ceil && is_balance a.opening && int_le a.floor a.opening && int_le a.opening a.ceil

-- what is wrong with an account, against those of the rows before it
abbrev pub standing_fault : List ℕ → Tables → List AccountRow → AccountRow → Option Why
standing_fault home t earlier a = first_of (
    double (clashes a) earlier
    ∷ unless (has_head t a.owner.head && owner_fits home a) why.Bic
    ∷ unless (is_some (decimals_in t a.ccy.0)) why.Currency
    ∷ unless (within_limits a) why.Limits
    ∷ [])

-- what is wrong with a row: its columns, else the account that it says
abbrev pub account_fault : List ℕ → Tables → List AccountRow → Cells → Option Why
account_fault home t earlier row = option_or (form_fault row) (standing_fault home t earlier (account_of t row))

-- what is wrong with an account that is given alone, as row 1
abbrev pub lone_account_fault : List ℕ → Tables → Cells → Option (ℕ × Why)
lone_account_fault home t row = option_map (λ w. (1, w)) (account_fault home t [] row)

-- the first fault of a file, for a home bank with this head
abbrev pub accounts_fault : List ℕ → Tables → List ℕ → Option (ℕ × Why)
accounts_fault home t file = first_fault most_rows (against (account_of t) (account_fault home t)) file
