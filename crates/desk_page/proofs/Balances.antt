-- The balance of an account by the totals of all.
use Rattle.std.proofs.Common.{◌≡◌, ℕ, ◌-◌, List, Some, length, slice_index_or, refl, ℤ, pos, ◌+ℤ◌, ◌-ℤ◌}
use Rattle.day_model.specs.Balance.{balance_of}
use Rattle.day_model.specs.Chart.{Chart, IsChart, IsListed, IsSmall, account_at, accounts_of}
use Rattle.day_model.specs.Legal.{IsLegal}
use Rattle.day_model.specs.Totals.{HasTotals, Pair}
use Rattle.day_model.specs.declared.account.Account.{Account}
use Rattle.day_model.specs.declared.entry.Entry.{Entry}
use Rattle.day_model.proofs.laws.Standing.{small_balance, within_now}
use Rattle.corr_report.proofs.laws.Totals.{balance_is as balance_by, pair_is}

-- its pair gives it
pub balance_is : (chart : Chart) (entries : List Entry) (pairs : List Pair) (n : ℕ) (account : Account) (d : Pair) → IsListed chart n → account_at chart n ≡ Some account
    → HasTotals pairs (length (accounts_of chart)) entries
    → (account.opening +ℤ pos (slice_index_or pairs (n - 1) d).0) -ℤ pos (slice_index_or pairs (n - 1) d).1 ≡ balance_of chart entries n
balance_is chart entries pairs n account d there at has =
    let p = slice_index_or pairs (n - 1) d in
    balance_by chart entries n p account (pair_is entries pairs n (length (accounts_of chart)) p d has there.0 there.1 refl) at

-- it is below 10^14 in size
pub balance_small : (chart : Chart) (entries : List Entry) (n : ℕ) → IsChart chart → IsLegal chart entries → IsListed chart n → IsSmall (balance_of chart entries n)
balance_small chart entries n sound legal there = small_balance chart n (balance_of chart entries n) sound there (within_now chart entries n sound legal there)
