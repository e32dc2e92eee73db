-- The balance of an account by its totals.
use Rattle.std.proofs.Common.{◌≡◌, ℕ, zero, suc, ◌-◌, ◌≤◌, List, Option, Some, get_or, length, sym, ap, ◌∙◌, arith}
use Rattle.std.proofs.Common.{ℤ, pos, ◌+ℤ◌, ◌-ℤ◌}
use Rattle.std.specs.Prelude.{option_map, unwrap_or}
use Rattle.std.proofs.lemmas.Option.{same_Some, slice_get-get_or}
use Rattle.day_model.specs.Balance.{balance_of, credits_of, debits_of, opening_of}
use Rattle.day_model.specs.Chart.{Chart, account_at}
use Rattle.day_model.specs.Totals.{HasTotals, Pair, pair_at, totals_of}
use Rattle.day_model.specs.declared.account.Account.{Account}
use Rattle.day_model.specs.declared.entry.Entry.{Entry}

pair_there : (pairs : List Pair) (n : ℕ) (d : Pair) → 1 ≤ n → n ≤ length pairs → pair_at pairs n ≡ Some (get_or pairs (n - 1) d)
pair_there pairs zero d low high = absurd (omega (arith, low))
pair_there pairs (suc k) d low high =
    let place : k ≡ suc k - 1 = omega arith in
    slice_get-get_or pairs k d (omega (arith, high)) ∙ ap (λ (j : ℕ). Some (get_or pairs j d)) place

-- the pair at an account's place is its totals
pub pair_is : (entries : List Entry) (pairs : List Pair) (n count : ℕ) (p d : Pair) → HasTotals pairs count entries → 1 ≤ n → n ≤ count → p ≡ get_or pairs (n - 1) d → p ≡ totals_of n entries
pair_is entries pairs n count p d has low high is =
    is ∙ same_Some (get_or pairs (n - 1) d) (totals_of n entries) (sym (pair_there pairs n d low (omega (arith, high, has.size))) ∙ has.each n low high)

-- and gives its balance
pub balance_is : (chart : Chart) (entries : List Entry) (n : ℕ) (p : Pair) (account : Account) → p ≡ totals_of n entries → account_at chart n ≡ Some account
    → (account.opening +ℤ pos p.0) -ℤ pos p.1 ≡ balance_of chart entries n
balance_is chart entries n p account totals at =
    let opening : account.opening ≡ opening_of chart n = ap (λ (o : Option Account). unwrap_or (option_map (λ x. x.opening) o) (pos 0)) (sym at) in
    ap (λ (q : Pair). (account.opening +ℤ pos q.0) -ℤ pos q.1) totals ∙ ap (λ (z : ℤ). (z +ℤ pos (credits_of entries n)) -ℤ pos (debits_of entries n)) opening
