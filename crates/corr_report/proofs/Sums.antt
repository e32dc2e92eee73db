-- The sums of a currency's accounts are its turnover.
use Rattle.std.proofs.Common.{◌≡◌, ℕ, ◌+◌, ◌^◌, ◌<◌, ◌≤◌, Bool, true, false, List, [], ◌∷◌, Option, refl, ap, ◌∙◌, arith, cond, length, ℤ, pos, ◌+ℤ◌}
use Rattle.std.specs.Prelude.{sum_by, unwrap_or, if◌then◌else◌}
use Rattle.std.proofs.lemmas.Int.{ints}
use Rattle.corr_money.specs.declared.amount.Ccy.{Ccy}
use Rattle.day_model.specs.declared.account.Account.{Account}
use Rattle.day_model.specs.declared.entry.Entry.{Entry}
use Rattle.day_model.specs.declared.pay.Side.{Side}
use Rattle.day_model.specs.declared.pay.Side.TheVariants.{Debit, Credit}
use Rattle.day_model.specs.Chart.{Chart, accounts_of, is_same_ccy}
use Rattle.day_model.specs.Balance.{moved_by}
use Rattle.day_model.specs.Legal.{IsLegal}
use Rattle.day_model.specs.Laws.{sum_in, turnover}
use Rattle.day_model.specs.Totals.{Pair, HasTotals, totals_of}
use Rattle.day_model.proofs.laws.Turnovers.{turnover_by_accounts, turnover_fits}
use Rattle.corr_report.specs.inner.Totals.{part_at, part_of, sum_over}

over_same : (f g : ℕ → ℕ) (ccy : Ccy) (i : ℕ) (accounts : List Account) → ((n : ℕ) → i ≤ n → n < i + length accounts → f n ≡ g n) → sum_over f ccy i accounts ≡ sum_over g ccy i accounts
over_same f g ccy i [] h = refl
over_same f g ccy i (x ∷ xs) h =
    let here = ap (λ (m : ℕ). cond (is_same_ccy x.ccy ccy) m 0) (h i (omega arith) (omega arith)) in
    let rest = over_same f g ccy (i + 1) xs (λ n from upto. h n (omega arith) (omega arith)) in
    omega (arith, here, rest)

number_step : (b : Bool) (x s : ℕ) → (if b then pos x else pos 0) +ℤ pos s ≡ pos ((if b then x else 0) + s)
number_step true x s = omega (arith, ints)
number_step false x s = omega (arith, ints)

-- the sum of numbers, as one of integers
over_in : (f : ℕ → ℕ) (ccy : Ccy) (i : ℕ) (accounts : List Account) → sum_in ccy (λ n. pos (f n)) i accounts ≡ pos (sum_over f ccy i accounts)
over_in f ccy i [] = refl
over_in f ccy i (x ∷ xs) =
    ap (λ (z : ℤ). (if is_same_ccy x.ccy ccy then pos (f i) else pos 0) +ℤ z) (over_in f ccy (i + 1) xs)
    ∙ number_step (is_same_ccy x.ccy ccy) (f i) (sum_over f ccy (i + 1) xs)

same_number : (m n : ℕ) (z : ℤ) → z ≡ pos m → z ≡ pos n → m ≡ n
same_number m n z a b = omega (arith, ints, a, b)

side_of_totals : (side : Side) (entries : List Entry) (n : ℕ) → part_of side (totals_of n entries) ≡ sum_by (moved_by side n) entries
side_of_totals Debit entries n = refl
side_of_totals Credit entries n = refl

-- each account's totals on one side, summed over a currency, are its turnover
total_is : (side : Side) (chart : Chart) (entries : List Entry) (ccy : Ccy) (pairs : List Pair) → IsLegal chart entries → HasTotals pairs (length (accounts_of chart)) entries → sum_over (part_at side pairs) ccy 1 (accounts_of chart) ≡ turnover chart ccy side entries
total_is side chart entries ccy pairs legal has =
    over_same (part_at side pairs) (λ n. sum_by (moved_by side n) entries) ccy 1 (accounts_of chart) (λ n from upto.
    ap (λ (o : Option Pair). part_of side (unwrap_or o (0, 0))) (has.each n from (omega arith)) ∙ side_of_totals side entries n)
    ∙ same_number (sum_over (λ n. sum_by (moved_by side n) entries) ccy 1 (accounts_of chart)) (turnover chart ccy side entries) (sum_in ccy (λ n. pos (sum_by (moved_by side n) entries)) 1 (accounts_of chart))
    (over_in (λ n. sum_by (moved_by side n) entries) ccy 1 (accounts_of chart)) (turnover_by_accounts side chart entries ccy legal)

pub sum_is : (side : Side) (chart : Chart) (entries : List Entry) (ccy : Ccy) (pairs items : List Pair) → IsLegal chart entries → HasTotals pairs (length (accounts_of chart)) entries → items ≡ pairs
    → sum_over (part_at side items) ccy 1 (accounts_of chart) ≡ turnover chart ccy side entries
sum_is side chart entries ccy pairs items legal has same =
    ap (λ (ps : List Pair). sum_over (part_at side ps) ccy 1 (accounts_of chart)) same ∙ total_is side chart entries ccy pairs legal has

pub sum_fits : (side : Side) (chart : Chart) (entries : List Entry) (ccy : Ccy) (pairs items : List Pair) → IsLegal chart entries → HasTotals pairs (length (accounts_of chart)) entries → items ≡ pairs
    → sum_over (part_at side items) ccy 1 (accounts_of chart) < 2 ^ 64
sum_fits side chart entries ccy pairs items legal has same = omega (arith, sum_is side chart entries ccy pairs items legal has same, turnover_fits side chart entries ccy legal)
