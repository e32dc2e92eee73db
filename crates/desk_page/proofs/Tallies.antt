-- Items that occur several times: each once, how often each does, and one item more.
use Rattle.std.proofs.Common.{◌≡◌, ℕ, ◌+◌, ◌≤◌, Bool, true, false, cond, List, [], ◌∷◌, ◌++◌, filter, length, map, Option, inl, inr, refl, sym, ap, ◌∙◌, arith}
use Rattle.std.specs.Prelude.{◌||◌, All, slice_index_or}
use Rattle.std.specs.List.{AllByRecursion, list_any}
use Rattle.std.specs.Map.{lookup}
use Rattle.std.specs.Option.{unwrap_or}
use Rattle.std.proofs.lemmas.Bool.{cases_Bool, or_parts, true≢false}
use Rattle.std.proofs.lemmas.List.{length-append}
use Rattle.std.proofs.lemmas.List.Elements.{All-from_recursion, filter-append}
use Rattle.indexmap.specs.IndexMap.{insert_entry}
use Rattle.indexmap.specs.IndexSet.{insert_all, insert_key}
use Rattle.desk_page.specs.Tally.{count_of, firsts, tally_of}
use Rattle.desk_page.proofs.Known.{any_joined, or_false}

or_assoc : (a b c : Bool) → ((a || b) || c) ≡ (a || (b || c))
or_assoc true b c = refl
or_assoc false b c = refl

module _ {A : Type 0} (eq : A → A → Bool) (same : (a b : A) → eq a b ≡ true → a ≡ b) (self : (a : A) → eq a a ≡ true) where
  -- an item is among others
  abbrev has : A → List A → Bool
  has x xs = list_any (eq x) xs

  apart_both : (a b : A) → eq a b ≡ false → eq b a ≡ false
  apart_both a b apart = elim (cases_Bool (eq b a)) [
    | inl is ↦ absurd (true≢false (sym (ap (λ (x : A). eq a x) (same b a is) ∙ self a) ∙ apart))
    | inr other ↦ other
  ]

  -- ---- how many there are

  none_counted : (x : A) (xs : List A) → has x xs ≡ false → count_of eq x xs ≡ 0
  none_counted x [] none = refl
  none_counted x (y ∷ ys) none =
      let parts = or_parts (eq x y) (has x ys) none in
      rw parts.0 (none_counted x ys parts.1)

  count_push : (x : A) (xs : List A) (y : A) → count_of eq x (xs ++ y ∷ []) ≡ count_of eq x xs + count_of eq x (y ∷ [])
  count_push x xs y = ap length (filter-append (eq x) xs (y ∷ [])) ∙ length-append (filter (eq x) xs) (filter (eq x) (y ∷ []))

  one_more : (x : A) (xs : List A) → count_of eq x (xs ++ x ∷ []) ≡ count_of eq x xs + 1
  one_more x xs =
      let last : count_of eq x (x ∷ []) ≡ 1 = rw (self x) refl in
      count_push x xs x ∙ ap (λ (n : ℕ). count_of eq x xs + n) last

  other_more : (x : A) (xs : List A) (y : A) → eq x y ≡ false → count_of eq x (xs ++ y ∷ []) ≡ count_of eq x xs
  other_more x xs y apart =
      let last : count_of eq x (y ∷ []) ≡ 0 = rw apart refl in
      count_push x xs y ∙ ap (λ (n : ℕ). count_of eq x xs + n) last ∙ omega arith

  -- not more than there are items
  pub count_within : (x : A) (xs : List A) → count_of eq x xs ≤ length xs
  count_within x [] = omega arith
  count_within x (y ∷ ys) =
      let rest = count_within x ys in
      elim (cases_Bool (eq x y)) [
        | inl is ↦ rw is (omega (arith, rest))
        | inr apart ↦ rw apart (omega (arith, rest))
      ]

  -- ---- each once

  abbrev IsOnce : List A → Type 0
  IsOnce xs = (x : A) → has x xs ≡ true → count_of eq x xs ≡ 1

  pushed_once : (xs : List A) (y : A) → IsOnce xs → has y xs ≡ false → IsOnce (xs ++ y ∷ [])
  pushed_once xs y once fresh x among = elim (cases_Bool (eq x y)) [
    | inl is ↦
        let e : x ≡ y = same x y is in
        let none : count_of eq x xs ≡ 0 = none_counted x xs (ap (λ (z : A). has z xs) e ∙ fresh) in
        let one : count_of eq x (y ∷ []) ≡ 1 = rw is refl in
        count_push x xs y ∙ omega (arith, none, one)
    | inr apart ↦
        let there : has x xs ≡ true = sym (or_false (has x xs)) ∙ ap (λ (b : Bool). has x xs || (b || false)) (sym apart) ∙ sym (any_joined (eq x) xs (y ∷ [])) ∙ among in
        other_more x xs y apart ∙ once x there
  ]

  inserted_once : (xs : List A) (y : A) (t : Bool) → has y xs ≡ t → IsOnce xs → IsOnce (cond t xs (xs ++ y ∷ []))
  inserted_once xs y true there once = once
  inserted_once xs y false fresh once = pushed_once xs y once fresh

  all_once : (xs seen : List A) → IsOnce seen → IsOnce (insert_all eq seen xs)
  all_once [] seen once = once
  all_once (x ∷ xs) seen once = all_once xs (insert_key eq seen x) (inserted_once seen x (has x seen) refl once)

  firsts_once : (xs : List A) → IsOnce (firsts eq xs)
  firsts_once xs = all_once xs [] (λ x none. absurd (true≢false (sym none)))

  at_most_once : (xs : List A) (x : A) → IsOnce xs → count_of eq x xs ≤ 1
  at_most_once xs x once = elim (cases_Bool (has x xs)) [
    | inl is ↦ let one = once x is in omega (arith, one)
    | inr fresh ↦ let none = none_counted x xs fresh in omega (arith, none)
  ]

  -- ---- each is there

  has_inserted : (x y : A) (xs : List A) (t : Bool) → has y xs ≡ t → has x (cond t xs (xs ++ y ∷ [])) ≡ (has x xs || eq x y)
  has_inserted x y xs true there = elim (cases_Bool (eq x y)) [
    | inl is ↦
        let among : has x xs ≡ true = ap (λ (z : A). has z xs) (same x y is) ∙ there in
        rw among refl
    | inr apart ↦ sym (or_false (has x xs)) ∙ ap (λ (b : Bool). has x xs || b) (sym apart)
  ]
  has_inserted x y xs false fresh = any_joined (eq x) xs (y ∷ []) ∙ ap (λ (b : Bool). has x xs || b) (or_false (eq x y))

  has_all : (x : A) (xs seen : List A) → has x (insert_all eq seen xs) ≡ (has x seen || has x xs)
  has_all x [] seen = sym (or_false (has x seen))
  has_all x (y ∷ ys) seen =
      has_all x ys (insert_key eq seen y) ∙ ap (λ (b : Bool). b || has x ys) (has_inserted x y seen (has y seen) refl) ∙ or_assoc (has x seen) (eq x y) (has x ys)

  module _ {B : Type 0} (f : B → A) where
    listed : (bs : List B) (seen : List A) → AllByRecursion (λ b. has (f b) (insert_all eq seen (map f bs)) ≡ true) bs
    listed [] seen = tt
    listed (b ∷ bs) seen =
        let next : List A = insert_key eq seen (f b) in
        let among : has (f b) (f b ∷ map f bs) ≡ true = rw (self (f b)) refl in
        let all : (has (f b) seen || has (f b) (f b ∷ map f bs)) ≡ true = rw among (or_true (has (f b) seen)) in
        (has_all (f b) (f b ∷ map f bs) seen ∙ all, listed bs next)
      where
        or_true : (a : Bool) → (a || true) ≡ true
        or_true true = refl
        or_true false = refl

    -- each item's is among the firsts, once
    pub each_once : (bs : List B) → All (λ b. count_of eq (f b) (firsts eq (map f bs)) ≡ 1) bs
    each_once bs k d within =
        firsts_once (map f bs) (f (slice_index_or bs k d)) (All-from_recursion (λ b. has (f b) (firsts eq (map f bs)) ≡ true) bs (listed bs []) k d within)

  -- ---- one item more in a tally

  -- these items, with how many there are of each
  abbrev numbers : List A → List A → List (A × ℕ)
  numbers xs js = map (λ j. (j, count_of eq j xs)) js

  lookup_numbers : (xs js : List A) (k : A) → unwrap_or (lookup (eq k) (numbers xs js)) 0 ≡ cond (has k js) (count_of eq k xs) 0
  lookup_numbers xs [] k = refl
  lookup_numbers xs (j ∷ js) k = elim (cases_Bool (eq k j)) [
    | inl is ↦ rw is (ap (λ (x : A). count_of eq x xs) (sym (same k j is)))
    | inr apart ↦ rw apart (lookup_numbers xs js k)
  ]

  -- what a tally says of an item is how many there are; 0 where it isn't there
  pub tallied : (xs : List A) (k : A) → unwrap_or (lookup (eq k) (tally_of eq xs)) 0 ≡ count_of eq k xs
  tallied xs k = lookup_numbers xs (firsts eq xs) k ∙ ap (λ (b : Bool). cond b (count_of eq k xs) 0) (has_all k xs []) ∙ elim (cases_Bool (has k xs)) [
    | inl is ↦ rw is refl
    | inr none ↦ rw none (sym (none_counted k xs none))
  ]

  -- where none is the same, the numbers stay
  others_stay : (xs js : List A) (k : A) → count_of eq k js ≡ 0 → numbers xs js ≡ numbers (xs ++ k ∷ []) js
  others_stay xs [] k none = refl
  others_stay xs (j ∷ js) k none = elim (cases_Bool (eq k j)) [
    | inl is ↦ let some : count_of eq k (j ∷ js) ≡ count_of eq k js + 1 = rw is (omega arith) in absurd (omega (arith, none, some))
    | inr apart ↦
        let rest : count_of eq k js ≡ 0 = sym (ap (λ (t : Bool). length (cond t (j ∷ filter (eq k) js) (filter (eq k) js))) apart) ∙ none in
        let here : count_of eq j xs ≡ count_of eq j (xs ++ k ∷ []) = sym (other_more j xs k (apart_both k j apart)) in
        ap (λ (n : ℕ). (j, n) ∷ numbers xs js) here ∙ ap (λ (ps : List (A × ℕ)). (j, count_of eq j (xs ++ k ∷ [])) ∷ ps) (others_stay xs js k rest)
  ]

  cons_if : (t : Bool) (j k : A) (js : List A) → cond t (j ∷ js) (j ∷ (js ++ k ∷ [])) ≡ j ∷ cond t js (js ++ k ∷ [])
  cons_if true j k js = refl
  cons_if false j k js = refl

  numbers_more : (xs js : List A) (k : A) → count_of eq k js ≤ 1 → insert_entry eq (numbers xs js) k (count_of eq k xs + 1) ≡ numbers (xs ++ k ∷ []) (insert_key eq js k)
  numbers_more xs [] k once = ap (λ (n : ℕ). (k, n) ∷ []) (sym (one_more k xs))
  numbers_more xs (j ∷ js) k once = elim (cases_Bool (eq k j)) [
    | inl is ↦
        let some : count_of eq k (j ∷ js) ≡ count_of eq k js + 1 = rw is (omega arith) in
        let none : count_of eq k js ≡ 0 = omega (arith, once, some) in
        let here : count_of eq k xs + 1 ≡ count_of eq j (xs ++ k ∷ []) = sym (one_more k xs) ∙ ap (λ (x : A). count_of eq x (xs ++ k ∷ [])) (same k j is) in
        rw is (ap (λ (n : ℕ). (j, n) ∷ numbers xs js) here ∙ ap (λ (ps : List (A × ℕ)). (j, count_of eq j (xs ++ k ∷ [])) ∷ ps) (others_stay xs js k none))
    | inr apart ↦
        let same_count : count_of eq k (j ∷ js) ≡ count_of eq k js = ap (λ (t : Bool). length (cond t (j ∷ filter (eq k) js) (filter (eq k) js))) apart in
        let fewer : count_of eq k js ≤ 1 = omega (arith, once, same_count) in
        let here : count_of eq j xs ≡ count_of eq j (xs ++ k ∷ []) = sym (other_more j xs k (apart_both k j apart)) in
        rw apart (
        ap (λ (n : ℕ). (j, n) ∷ insert_entry eq (numbers xs js) k (count_of eq k xs + 1)) here
        ∙ ap (λ (ps : List (A × ℕ)). (j, count_of eq j (xs ++ k ∷ [])) ∷ ps) (numbers_more xs js k fewer)
        ∙ sym (ap (numbers (xs ++ k ∷ [])) (cons_if (has k js) j k js))
        )
  ]

  firsts_push : (seen xs : List A) (k : A) → insert_all eq seen (xs ++ k ∷ []) ≡ insert_key eq (insert_all eq seen xs) k
  firsts_push seen [] k = refl
  firsts_push seen (x ∷ xs) k = firsts_push (insert_key eq seen x) xs k

  -- one item more in a tally
  pub tally_more : (xs : List A) (k : A) (counts new : List (A × ℕ)) (n : ℕ) → counts ≡ tally_of eq xs → n ≡ unwrap_or (lookup (eq k) counts) 0 → new ≡ insert_entry eq counts k (n + 1)
      → new ≡ tally_of eq (xs ++ k ∷ [])
  tally_more xs k counts new n so_far was is =
      let number : n ≡ count_of eq k xs = was ∙ ap (λ (ps : List (A × ℕ)). unwrap_or (lookup (eq k) ps) 0) so_far ∙ tallied xs k in
      is ∙ ap (λ (ps : List (A × ℕ)). insert_entry eq ps k (n + 1)) so_far ∙ ap (λ (m : ℕ). insert_entry eq (tally_of eq xs) k (m + 1)) number
      ∙ numbers_more xs (firsts eq xs) k (at_most_once (firsts eq xs) k (firsts_once xs)) ∙ ap (numbers (xs ++ k ∷ [])) (sym (firsts_push [] xs k))
