-- What holds of the accounts that a table gives.
use Rattle.std.specs.Prelude.{◌≡◌, ◌≤◌, ◌<◌, ℕ, List, length, slice_get, Some, ◌≤ℤ◌, unsigned_abs, IsTrue}
use Rattle.corr_ids.specs.Bic.{bic_of}
use Rattle.corr_ids.specs.Kinds.{IsSameBank, is_kind}
use Rattle.corr_money.specs.Amounts.{amount_end, most_decimals}
use Rattle.ref_tables.specs.Columns.{is_account_id, is_ccy}
use Rattle.ref_tables.specs.Rows.{most_rows}
use Rattle.ref_tables.specs.Seen.{Tables, has_head, decimals_in}
use Rattle.ref_tables.specs.Accounts.{owner_fits}
use Rattle.ref_tables.specs.declared.account.AccountRow.{AccountRow}

-- an account of a home bank with this head, under these tables
pub record IsAccount (home : List ℕ) (t : Tables) (a : AccountRow) : Type 0 where
  pub id : IsTrue (is_account_id a.id)
  pub kind : IsTrue (is_kind a.kind)
  pub owner : (text : List ℕ) × (bic_of text ≡ Some a.owner)
  pub owner_known : IsTrue (has_head t a.owner.head)
  pub owner_fit : IsTrue (owner_fits home a)
  pub ccy : IsTrue (is_ccy a.ccy.0)
  pub decimals : decimals_in t a.ccy.0 ≡ Some a.decimals
  pub few_decimals : a.decimals ≤ most_decimals
  pub floor_small : unsigned_abs a.floor < amount_end
  pub ceil_small : unsigned_abs a.ceil < amount_end
  pub opening_small : unsigned_abs a.opening < amount_end
  pub above_floor : a.floor ≤ℤ a.opening
  pub below_ceil : a.opening ≤ℤ a.ceil

-- the accounts of a table: at most 1,000, no two with one id or of one relation, and one number of decimals a currency
pub record AreAccounts (home : List ℕ) (t : Tables) (accounts : List AccountRow) : Type 0 where
  pub few : length accounts ≤ most_rows
  pub each : (i : ℕ) (a : AccountRow) → slice_get accounts i ≡ Some a → IsAccount home t a
  pub ids : (i j : ℕ) (a b : AccountRow) → slice_get accounts i ≡ Some a → slice_get accounts j ≡ Some b → a.id ≡ b.id → i ≡ j
  pub relations : (i j : ℕ) (a b : AccountRow) → slice_get accounts i ≡ Some a → slice_get accounts j ≡ Some b → IsSameBank a.kind a.owner.head a.ccy.0 b.kind b.owner.head b.ccy.0 → i ≡ j
  pub decimals : (i j : ℕ) (a b : AccountRow) → slice_get accounts i ≡ Some a → slice_get accounts j ≡ Some b → a.ccy ≡ b.ccy → a.decimals ≡ b.decimals
