-- Totals of accounts when a change comes.
use Rattle.std.proofs.Common.{◌≡◌, ℕ, zero, suc, ◌+◌, ◌-◌, ◌<◌, ◌≤◌, All, List, [], ◌∷◌, ◌++◌, length, take, Option, Some, None, refl, sym, ap, ◌∙◌, subst, arith, inl, inr, ℤ, length-append}
use Rattle.std.specs.Prelude.{slice_get, slice_set}
use Rattle.std.specs.Option.{option_map_or}
use Rattle.std.proofs.lemmas.Bool.{cases_lt, cond-false, cond-true, le-ltb, lt-ltb}
use Rattle.std.proofs.lemmas.List.{length-set, take_all}
use Rattle.std.proofs.lemmas.List.Elements.{All-head, All-tail}
use Rattle.std.proofs.lemmas.Option.{slice_get_cases}
use Rattle.day_model.specs.declared.account.Account.{Account}
use Rattle.day_model.specs.declared.change.What.{What}
use Rattle.day_model.specs.declared.change.What.TheVariants.{Opened, Limits}
use Rattle.day_model.specs.declared.entry.Entry.{Entry}
use Rattle.day_model.specs.declared.pay.Leg.{Leg}
use Rattle.day_model.specs.Changes.{changed_by, with_ends}
use Rattle.day_model.specs.Chart.{Chart, accounts_of, with_change}
use Rattle.day_model.specs.Legal.{IsLegal}
use Rattle.day_model.specs.Totals.{HasTotals, Pair, booked_legs, legs_pair, pair_at, plus, totals_of}
use Rattle.day_model.proofs.laws.Changing.{accounts_with}
use Rattle.day_model.proofs.laws.Pairs.{booked_listed, legs_pair-cons, other_leg, totals_more}
use Rattle.day_model.proofs.laws.Slices.{push_before, push_last}
use Rattle.jrn_book.specs.inner.Reading.{widened}

-- ---- an account that no entry knows has no totals

legs_elsewhere : (n : ℕ) (legs : List Leg) → All (λ leg. leg.account.0 < n) legs → legs_pair n legs ≡ (0, 0)
legs_elsewhere n [] all = refl
legs_elsewhere n (leg ∷ legs) all =
    let other = other_leg n leg (λ same. omega (arith, same, All-head (λ (l : Leg). l.account.0 < n) leg legs all)) in
    let rest = legs_elsewhere n legs (All-tail (λ (l : Leg). l.account.0 < n) leg legs all) in
    legs_pair-cons n leg legs ∙ (λ i. plus (other i) (rest i))

no_totals : (entries : List Entry) (n k : ℕ) → ((i : ℕ) (e : Entry) → slice_get entries i ≡ Some e → All (λ leg. leg.account.0 < n) (booked_legs e)) → k ≤ length entries
    → totals_of n (take k entries) ≡ (0, 0)
no_totals entries n zero each le = refl
no_totals entries n (suc k) each le =
    elim (slice_get_cases entries k).1 [
      | inl found ↦
          let e : Entry = found.0 in
          let one : k + 1 ≡ suc k = omega arith in
          let more : totals_of n (take (k + 1) entries) ≡ plus (totals_of n (take k entries)) (legs_pair n (booked_legs e)) = totals_more entries e k n found.2 in
          let front = no_totals entries n k each (omega (arith, le)) in
          let legs = legs_elsewhere n (booked_legs e) (each k e found.2) in
          ap (λ (j : ℕ). totals_of n (take j entries)) (sym one) ∙ more ∙ (λ i. plus (front i) (legs i))
      | inr past ↦ absurd (omega (arith, le, past.0))
    ]

-- the next account of a legal history
new_totals : (chart : Chart) (history : List Entry) → IsLegal chart history → totals_of (length (accounts_of chart) + 1) history ≡ (0, 0)
new_totals chart history legal =
    let n : ℕ = length (accounts_of chart) + 1 in
    let each : (i : ℕ) (e : Entry) → slice_get history i ≡ Some e → All (λ leg. leg.account.0 < n) (booked_legs e) =
    λ i e at k d lt. let listed = booked_listed chart history e i legal at k d lt in omega (arith, listed.1) in
    ap (λ (es : List Entry). totals_of n es) (sym (take_all (length history) history (omega arith))) ∙ no_totals history n (length history) each (omega arith)

-- ---- pairs

-- a pair more, of the next account
push_totals : (pairs : List Pair) (count : ℕ) (history : List Entry) → HasTotals pairs count history → totals_of (count + 1) history ≡ (0, 0)
    → HasTotals (pairs ++ (0, 0) ∷ []) (count + 1) history
push_totals pairs count history has none = record {
  size = length-append pairs ((0, 0) ∷ []) ∙ ap (λ (n : ℕ). n + 1) has.size;
  each = λ n low high. at_push n low high;
}
  where
    at_push : (n : ℕ) → 1 ≤ n → n ≤ count + 1 → pair_at (pairs ++ (0, 0) ∷ []) n ≡ Some (totals_of n history)
    at_push zero low high = absurd (omega (arith, low))
    at_push (suc k) low high =
        elim (cases_lt k count) [
          | inl lt ↦ push_before pairs (0, 0) k (totals_of (suc k) history) (has.each (suc k) low (omega (arith, lt)))
          | inr ge ↦
              let here : k ≡ length pairs = omega (arith, has.size, high, ge) in
              let number : count + 1 ≡ suc k = omega (arith, has.size, high, ge) in
              ap (slice_get (pairs ++ (0, 0) ∷ [])) here ∙ push_last pairs (0, 0) ∙ ap (λ (p : Pair). Some p) (sym none ∙ ap (λ (n : ℕ). totals_of n history) number)
        ]

-- other ends leave the number of accounts
ends_length : (accounts : List Account) (k : ℕ) (floor ceil : ℤ) (o : Option Account) → length (option_map_or (λ a. slice_set accounts k (with_ends floor ceil a)) o accounts) ≡ length accounts
ends_length accounts k floor ceil None = refl
ends_length accounts k floor ceil (Some a) = length-set accounts k (with_ends floor ceil a)

by_what : (what : What) (accounts : List Account) (pairs : List Pair) (history : List Entry) → HasTotals pairs (length accounts) history
    → totals_of (length accounts + 1) history ≡ (0, 0) → HasTotals (widened (length (changed_by what accounts)) pairs) (length (changed_by what accounts)) history
by_what (Opened a) accounts pairs history has none =
    let size : length (accounts ++ a ∷ []) ≡ length accounts + 1 = length-append accounts (a ∷ []) in
    let wide : widened (length (accounts ++ a ∷ [])) pairs ≡ pairs ++ (0, 0) ∷ [] =
    cond-true _ (pairs ++ (0, 0) ∷ []) pairs (lt-ltb (length pairs) (length (accounts ++ a ∷ [])) (omega (arith, has.size, size))) in
    subst (λ (x : List Pair × ℕ). HasTotals x.0 x.1 history) (λ i. (sym wide i, sym size i)) (push_totals pairs (length accounts) history has none)
by_what (Limits n floor ceil) accounts pairs history has none =
    let size : length (changed_by (Limits n floor ceil) accounts) ≡ length accounts = ends_length accounts (n.0 - 1) floor ceil (slice_get accounts (n.0 - 1)) in
    let wide : widened (length (changed_by (Limits n floor ceil) accounts)) pairs ≡ pairs =
    cond-false _ (pairs ++ (0, 0) ∷ []) pairs (le-ltb (length pairs) (length (changed_by (Limits n floor ceil) accounts)) (omega (arith, has.size, size))) in
    subst (λ (x : List Pair × ℕ). HasTotals x.0 x.1 history) (λ i. (sym wide i, sym size i)) has

-- with a change more there is a pair for each account still
pub has_widened : (chart : Chart) (history : List Entry) (k : ℕ) (what : What) (pairs : List Pair) → IsLegal chart history → HasTotals pairs (length (accounts_of chart)) history
    → HasTotals (widened (length (accounts_of (with_change chart k what))) pairs) (length (accounts_of (with_change chart k what))) history
has_widened chart history k what pairs legal has =
    subst (λ (accounts : List Account). HasTotals (widened (length accounts) pairs) (length accounts) history) (sym (accounts_with chart k what))
    (by_what what (accounts_of chart) pairs history has (new_totals chart history legal))
