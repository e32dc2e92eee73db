-- What holds of the instructions that a table gives.
use Rattle.std.specs.Prelude.{◌≡◌, ◌≤◌, ◌↔◌, ◌<ℤ◌, ℕ, List, length, slice_get, Some, None, is_some, IsTrue}
use Rattle.corr_ids.specs.Bic.{IsBic}
use Rattle.corr_ids.specs.declared.bic.Bic.{Bic}
use Rattle.corr_ids.specs.declared.day.Day.{Day}
use Rattle.corr_money.specs.declared.amount.Ccy.{Ccy}
use Rattle.ref_tables.specs.Columns.{is_account_id, is_ccy}
use Rattle.ref_tables.specs.Seen.{Tables, decimals_in}
use Rattle.ssi_versions.specs.declared.method.Method.TheVariants.{Book}
use Rattle.ssi_versions.specs.declared.row.SsiRow.{SsiRow}
use Rattle.ssi_versions.specs.Instruction.{is_asked}
use Rattle.ssi_versions.specs.Rows.{is_bank_text, knows_bank, knows_via, most_instructions}

-- an instruction in the form of its columns: there is a bank between, a BIC, exactly where it doesn't pay by BOOK
pub record IsInForm (r : SsiRow) : Type 0 where
  pub ccy : IsTrue (is_ccy r.ccy.0)
  pub bank : IsTrue (is_bank_text r.bank)
  pub via : (b : Bic) → r.via ≡ Some b → IsBic b
  pub booked : (r.via ≡ None) ↔ (r.method ≡ Book)
  pub account : IsTrue (is_account_id r.account)

-- an instruction under these tables of banks and currencies
pub record IsInstruction (t : Tables) (r : SsiRow) : Type 0 where
  pub form : IsInForm r
  pub bank : IsTrue (knows_bank t r.bank)
  pub via : IsTrue (knows_via t r.via)
  pub ccy : IsTrue (is_some (decimals_in t r.ccy.0))
  pub span : r.from.0 <ℤ r.until.0

-- the instructions of a table: at most 10,000, and on no day two for one currency and one bank text
pub record AreInstructions (t : Tables) (rows : List SsiRow) : Type 0 where
  pub few : length rows ≤ most_instructions
  pub each : (i : ℕ) (r : SsiRow) → slice_get rows i ≡ Some r → IsInstruction t r
  pub single : (ccy : Ccy) (bank : List ℕ) (day : Day) (i j : ℕ) (a b : SsiRow) → slice_get rows i ≡ Some a → slice_get rows j ≡ Some b
      → IsTrue (is_asked ccy bank day a) → IsTrue (is_asked ccy bank day b) → i ≡ j
