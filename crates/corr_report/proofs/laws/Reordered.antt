-- The summary of the same entries in another order is the same.
use Rattle.std.proofs.Common.{◌≡◌, ℕ, ◌+◌, List, [], ◌∷◌, ◌++◌, pos, ◌+ℤ◌, ◌-ℤ◌, refl, ap, ap₂}
use Rattle.std.specs.List.{flat_map}
use Rattle.std.specs.List.Sorted.{IsPermutation}
use Rattle.std.proofs.lemmas.List.Sorted.{length_permutation, sum_by-IsPermutation}
use Rattle.day_model.specs.declared.entry.Entry.{Entry}
use Rattle.day_model.specs.declared.pay.Side.TheVariants.{Debit, Credit}
use Rattle.day_model.specs.Balance.{balance_of, moved_by, opening_of}
use Rattle.day_model.specs.Chart.{Chart, accounts_of}
use Rattle.day_model.specs.Laws.{entry_in}
use Rattle.corr_report.specs.declared.currency.Currency.{Currency}
use Rattle.corr_report.specs.Lines.{numbered}
use Rattle.corr_report.specs.Report.{count_line}
use Rattle.corr_report.specs.Summary.{balance_line, summary_of}
use Rattle.corr_report.specs.Totals.{currencies_of, total_line, total_of, total_lines}

flat_same : {X : Type 0} (f g : X → List ℕ) → ((x : X) → f x ≡ g x) → (xs : List X) → flat_map f xs ≡ flat_map g xs
flat_same f g same [] = refl
flat_same f g same (x ∷ xs) = ap₂ ◌++◌ (same x) (flat_same f g same xs)

numbered_same : {X : Type 0} (f g : ℕ → X → List ℕ) → ((n : ℕ) (x : X) → f n x ≡ g n x) → (n : ℕ) (xs : List X) → numbered f n xs ≡ numbered g n xs
numbered_same f g same n [] = refl
numbered_same f g same n (x ∷ xs) = ap₂ ◌++◌ (same n x) (numbered_same f g same (n + 1) xs)

total_same : (chart : Chart) (xs ys : List Entry) → IsPermutation xs ys → (unit : Currency) → total_of chart ys unit ≡ total_of chart xs unit
total_same chart xs ys moved unit =
    ap₂ (total_line unit) (sum_by-IsPermutation (entry_in chart unit.ccy Debit) xs ys moved) (sum_by-IsPermutation (entry_in chart unit.ccy Credit) xs ys moved)

balance_same : (chart : Chart) (xs ys : List Entry) → IsPermutation xs ys → (n : ℕ) → balance_of chart ys n ≡ balance_of chart xs n
balance_same chart xs ys moved n =
    ap₂ (λ (credits debits : ℕ). (opening_of chart n +ℤ pos credits) -ℤ pos debits) (sum_by-IsPermutation (moved_by Credit n) xs ys moved) (sum_by-IsPermutation (moved_by Debit n) xs ys moved)

-- the summary is that of the same entries in any order
pub summary_reordered : (chart : Chart) (xs ys : List Entry) → IsPermutation xs ys → summary_of chart ys ≡ summary_of chart xs
summary_reordered chart xs ys moved =
    let counts = ap (λ n. count_line n n) (length_permutation xs ys moved) in
    let totals : total_lines chart ys ≡ total_lines chart xs = flat_same (total_of chart ys) (total_of chart xs) (total_same chart xs ys moved) (currencies_of [] (accounts_of chart)) in
    let balances = numbered_same (λ n. balance_line (balance_of chart ys n)) (λ n. balance_line (balance_of chart xs n)) (λ n account. ap (λ b. balance_line b account) (balance_same chart xs ys moved n)) 1 (accounts_of chart) in
    ap₂ ◌++◌ (ap₂ ◌++◌ counts totals) balances
