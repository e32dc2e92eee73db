-- Places that are taken in turn, and the first that must be taken and is not.
use Rattle.std.proofs.Common.{◌≡◌, ℕ, ◌+◌, ◌-◌, ◌<◌, ◌≤◌, ◌==◌, Bool, true, false, List, [], ◌∷◌, ◌++◌, length, get_or, drop, Option, Some, None, option_map, refl, sym, ap, subst, ◌∙◌, arith, inl, inr}
use Rattle.std.proofs.lemmas.Bool.{cases_Bool}
use Rattle.std.proofs.lemmas.Bool.Decides.{nat_tests}
use Rattle.std.proofs.lemmas.List.{drop_more, drop_all, drop-drop, length-drop, length-take-le}
use Rattle.std.proofs.lemmas.List.Folds.{drop_split}
use Rattle.std.specs.List.{list_any, slice_range}
use Rattle.std.specs.Option.{option_or}
use Rattle.fin_layout.specs.declared.place.Place.{Place}
use Rattle.fin_layout.specs.Order.{free_after, missing_from}
use Rattle.fin_layout.specs.inner.Order.{Rising}
use Rattle.fin_layout.proofs.laws.Grouped.{free_after-bounds}

-- whether a place is taken
abbrev pub is_taken : List ℕ → ℕ → Bool
is_taken found k = list_any (λ q. q == k) found

or-none : (o : Option ℕ) → option_or o None ≡ o
or-none None = refl
or-none (Some k) = refl

-- places that are counted from n on
shifted : (n k : ℕ) (places : List Place) → missing_from (n + k) places [] ≡ option_map (λ j. n + j) (missing_from k places [])
unfolding missing_from
shifted n k [] = refl
shifted n k (p ∷ places) = elim (cases_Bool p.must) [
  | inl must ↦ rw must refl
  | inr may ↦
      let next : (n + k) + 1 ≡ n + (k + 1) = omega arith in
      rw (may, next) (shifted n (k + 1) places)
]

-- where none of the first places is taken, the first of them that must be is missing
passed : (found : List ℕ) (k : ℕ) (places more : List Place) → ((j : ℕ) → k ≤ j → j < k + length places → is_taken found j ≡ false)
    → missing_from k (places ++ more) found ≡ option_or (missing_from k places []) (missing_from (k + length places) more found)
unfolding missing_from
passed found k [] more free = let same : k ≡ k + 0 = omega arith in ap (λ n. missing_from n more found) same
passed found k (p ∷ places) more free =
    let here : is_taken found k ≡ false = free k (omega arith) (omega arith) in
    elim (cases_Bool p.must) [
      | inl must ↦ rw (must, here) refl
      | inr may ↦
          let sum : (k + 1) + length places ≡ k + length (p ∷ places) = omega arith in
          rw may (passed found (k + 1) places more (λ j from below. free j (omega (arith, from)) (omega (arith, below, sum)))
          ∙ ap (λ n. option_or (missing_from (k + 1) places []) (missing_from n more found)) sum)
    ]

-- no place before the next one that is taken
none-before : (order : List Place) (low k : ℕ) (found : List ℕ) → Rising order low found → k < low → is_taken found k ≡ false
none-before order low k [] up lt = refl
none-before order low k (q ∷ found) up lt =
    let next = (free_after-bounds order q).0 in
    let from = up.0 in
    let apart : (q == k) ≡ false = grind (arith, nat_tests) in
    rw apart (none-before order (free_after order q) k found up.2 (omega (arith, next, from, lt)))

-- a place that is taken is not missing
after-taken : (found : List ℕ) (at : ℕ) (places : List Place) → is_taken found at ≡ true → missing_from at places found ≡ missing_from (at + 1) (drop 1 places) found
unfolding missing_from
after-taken found at [] taken = refl
after-taken found at (p ∷ places) taken = elim (cases_Bool p.must) [
  | inl must ↦ rw (must, taken) refl
  | inr may ↦ rw may refl
]

taken-passed : (found : List ℕ) (at : ℕ) (order : List Place) → is_taken found at ≡ true → missing_from at (drop at order) found ≡ missing_from (at + 1) (drop (at + 1) order) found
taken-passed found at order taken = after-taken found at (drop at order) taken ∙ ap (λ places. missing_from (at + 1) places found) (drop-drop 1 at order)

-- what is known before the i-th place that is taken, where the places before `free` are done with
pub record TakenInTurn (order : List Place) (found : List ℕ) (i free : ℕ) : Type 0 where
  pub later : missing_from 0 order found ≡ missing_from free (drop free order) found
  pub within : free ≤ length order
  pub low : ℕ
  pub near : free ≤ low + 1
  pub rising : Rising order low (drop i found)
  pub ahead : (k : ℕ) → free ≤ k → is_taken found k ≡ is_taken (drop i found) k

pub turn-start : (order : List Place) (found : List ℕ) → Rising order 0 found → TakenInTurn order found 0 0
turn-start order found up = record { later = refl; within = omega arith; low = 0; near = omega arith; rising = up; ahead = λ k le. refl }

length-range : (order : List Place) (from until : ℕ) → from ≤ until → until ≤ length order → from + length (slice_range order from until) ≡ until
length-range order from until le there = omega (arith, length-drop from order, length-take-le (until - from) (drop from order) (omega (arith, le, there, length-drop from order)))

module _ {order : List Place} {found : List ℕ} {i free : ℕ} (s : TakenInTurn order found i free) where
  -- what is missing, where no place from `free` on and before `until` is taken
  split : (until : ℕ) → free ≤ until → until ≤ length order → ((k : ℕ) → free ≤ k → k < until → is_taken found k ≡ false)
      → missing_from 0 order found ≡ option_or (option_map (λ k. free + k) (missing_from 0 (slice_range order free until) [])) (missing_from until (drop until order) found)
  split until le there none =
      let long = length-range order free until le there in
      let first : missing_from free (slice_range order free until) [] ≡ option_map (λ k. free + k) (missing_from 0 (slice_range order free until) []) =
      let same : free ≡ free + 0 = omega arith in
      ap (λ n. missing_from n (slice_range order free until) []) same ∙ shifted free 0 (slice_range order free until) in
      let both = passed found free (slice_range order free until) (drop until order) (λ k from below. none k from (omega (arith, below, long))) in
      s.later ∙ ap (λ (places : List Place). missing_from free places found) (drop_split order free until le) ∙ both ∙ rw (first, long) refl

  module _ (at : ℕ) (is : get_or found i 0 ≡ at) (lt : i < length found) where
    rest : drop i found ≡ at ∷ drop (i + 1) found
    rest = drop_more found i 0 lt ∙ ap (λ q. q ∷ drop (i + 1) found) is

    up : Rising order s.low (at ∷ drop (i + 1) found)
    up = subst (Rising order s.low) rest s.rising

    pub at-within : at < length order
    at-within = up.1

    untaken : (k : ℕ) → free ≤ k → k < at → is_taken found k ≡ false
    untaken k from below = s.ahead k from ∙ rw rest (none-before order at k (at ∷ drop (i + 1) found) (omega arith, up.1, up.2) below)

    -- a place that is taken once more
    pub turn-again : at < free → TakenInTurn order found (i + 1) free
    turn-again before =
        let next = (free_after-bounds order at).0 in
        let from = up.0 in
        record {
          later = s.later;
          within = s.within;
          low = free_after order at;
          near = omega (arith, next, from, s.near);
          rising = up.2;
          ahead = λ k le.
              let apart : (at == k) ≡ false = grind (arith, nat_tests) in
              s.ahead k le ∙ rw (rest, apart) refl;
        }

    module _ (le : free ≤ at) where
      pub turn-due : (due : ℕ) → Some due ≡ option_map (λ k. free + k) (missing_from 0 (slice_range order free at) []) → Some due ≡ missing_from 0 order found
      turn-due due e = sym (split at le (omega (arith, at-within)) untaken ∙ rw (← e) refl)

      pub turn-on : None ≡ option_map (λ k. free + k) (missing_from 0 (slice_range order free at) []) → TakenInTurn order found (i + 1) (at + 1)
      turn-on none =
          let next = (free_after-bounds order at).0 in
          let same : (at == at) ≡ true = grind (arith, nat_tests) in
          let taken : is_taken found at ≡ true = s.ahead at le ∙ rw (rest, same) refl in
          record {
            later = split at le (omega (arith, at-within)) untaken ∙ rw (← none) (taken-passed found at order taken);
            within = omega (arith, at-within);
            low = free_after order at;
            near = omega (arith, next);
            rising = up.2;
            ahead = λ k from.
                let apart : (at == k) ≡ false = grind (arith, nat_tests) in
                s.ahead k (omega (arith, from, le)) ∙ rw (rest, apart) refl;
          }

  pub turn-end : (o : Option ℕ) → length found ≤ i → o ≡ option_map (λ k. free + k) (missing_from 0 (slice_range order free (length order)) []) → o ≡ missing_from 0 order found
  unfolding missing_from
  turn-end o le e =
      let none : (k : ℕ) → free ≤ k → k < length order → is_taken found k ≡ false = λ k from below. s.ahead k from ∙ rw (drop_all i found le) refl in
      sym (split (length order) s.within (omega arith) none ∙ rw (← e, drop_all (length order) order (omega arith)) (or-none o))
