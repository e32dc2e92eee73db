-- The pairs of a history.
use Rattle.std.proofs.Common.{◌≡◌, ◌+◌, ◌≤◌, ℕ, zero, suc, List, [], ◌∷◌, ◌++◌, length, take, replicate, Some, sym, ap, ◌∙◌, subst, arith}
use Rattle.std.specs.Prelude.{slice_get}
use Rattle.std.proofs.lemmas.List.{get_or-replicate, length-replicate}
use Rattle.std.proofs.lemmas.Option.{same_Some, slice_get-get_or}
use Rattle.day_model.specs.declared.entry.Entry.{Entry}
use Rattle.day_model.specs.Chart.{Chart, accounts_of}
use Rattle.day_model.specs.Legal.{IsLegal}
use Rattle.day_model.specs.Totals.{Pair, plus, Fits64, legs_pair, booked_legs, totals_of, pair_at, HasTotals}
use Rattle.day_model.proofs.laws.Pairs.{totals_more, totals_so_far, legal_totals_fit, entry_adds_its_legs}
use Rattle.day_model.specs.Pairs.{pairs_with, PairsFit}
use Rattle.day_model.proofs.laws.PairLists.{length-pairs_from, pair_after, there_is}

-- before any entry
pair_of_none : (count n : ℕ) → 1 ≤ n → n ≤ count → pair_at (replicate count (0, 0)) n ≡ Some (0, 0)
pair_of_none count zero low high = absurd (omega (arith, low))
pair_of_none count (suc k) low high =
    let none : List Pair = replicate count (0, 0) in
    let size : length none ≡ count = length-replicate count (0, 0) in
    slice_get-get_or none k (0, 0) (omega (arith, size, high)) ∙ ap (λ (p : Pair). Some p) (get_or-replicate count k (0, 0) (0, 0) (omega (arith, high)))

-- without entries the totals of each account are zero
pub has_none : (count : ℕ) → HasTotals (replicate count (0, 0)) count []
has_none count = record { size = length-replicate count (0, 0); each = pair_of_none count }

-- each pair fits after the next entry of a legal history
pub entry_fits : (chart : Chart) (entries : List Entry) (e : Entry) (i : ℕ) (pairs : List Pair) → IsLegal chart entries → slice_get entries i ≡ Some e
    → HasTotals pairs (length (accounts_of chart)) (take i entries) → PairsFit (booked_legs e) pairs
entry_fits chart entries e i pairs legal at has = λ n p here.
    let there = there_is pairs n p here in
    let is : p ≡ totals_of n (take i entries) =
    same_Some p (totals_of n (take i entries)) (sym here ∙ has.each n there.0 (omega (arith, there.1, has.size))) in
    let less = totals_so_far entries (i + 1) n in
    let fit = legal_totals_fit chart entries n legal in
    subst (λ (y : Pair). Fits64 (plus y (legs_pair n (booked_legs e)))) (sym is)
    (subst Fits64 (totals_more entries e i n at) (omega (arith, less.0, fit.0), omega (arith, less.1, fit.1)))

-- the pairs after the next entry
pub has_more : (entries : List Entry) (e : Entry) (i count : ℕ) (pairs : List Pair) → slice_get entries i ≡ Some e
    → HasTotals pairs count (take i entries) → HasTotals (pairs_with (booked_legs e) pairs) count (take (i + 1) entries)
has_more entries e i count pairs at has = record {
  size = length-pairs_from 1 (booked_legs e) pairs ∙ has.size;
  each = λ n low high. pair_after (booked_legs e) pairs n (totals_of n (take i entries)) (has.each n low high)
      ∙ ap (λ (p : Pair). Some p) (sym (totals_more entries e i n at));
}

-- and after a new entry
pub has_entry : (entries : List Entry) (e : Entry) (count : ℕ) (pairs : List Pair) → HasTotals pairs count entries
    → HasTotals (pairs_with (booked_legs e) pairs) count (entries ++ e ∷ [])
has_entry entries e count pairs has = record {
  size = length-pairs_from 1 (booked_legs e) pairs ∙ has.size;
  each = λ n low high.
      pair_after (booked_legs e) pairs n (totals_of n entries) (has.each n low high) ∙ ap (λ (p : Pair). Some p) (sym (entry_adds_its_legs entries e n));
}
