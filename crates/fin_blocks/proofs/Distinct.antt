-- Marking the numbers that stand before.
use Rattle.std.proofs.Common.{◌≡◌, ℕ, ◌+◌, ◌<◌, ◌≤◌, ◌≢◌, Bool, true, false, List, [], ◌∷◌, ◌++◌, length, get_or, set, map, take, drop, refl, sym, ap, ◌∙◌, inl, inr, arith}
use Rattle.std.specs.Prelude.{◌==◌, ◌||◌}
use Rattle.std.specs.List.{list_any}
use Rattle.std.proofs.lemmas.Grind.{get_or-set_at}
use Rattle.std.proofs.lemmas.Bool.{cases_Bool}
use Rattle.std.proofs.lemmas.Bool.Decides.{nat_tests}
use Rattle.std.proofs.lemmas.List.{get_or-set_other, get_or-map, take-map, take_more, drop_more, drop_all, length-set}
use Rattle.std.proofs.lemmas.List.Folds.{list_any_more}
use Rattle.fin_blocks.specs.User.{differ_from, are_distinct}

-- the numbers passed are those marked, and no two of them are equal
pub record IsMarked (seen : List Bool) (ns : List ℕ) (at : ℕ) : Type 0 where
  pub long : length seen ≡ 1000
  pub passed : are_distinct ns ≡ differ_from (take at ns) (drop at ns)
  pub marked : (n : ℕ) → n < 1000 → get_or seen n false ≡ list_any (λ q. q == n) (take at ns)

pub marks-none : (seen : List Bool) (ns : List ℕ) → length seen ≡ 1000 → ((n : ℕ) → n < 1000 → get_or seen n false ≡ false) → IsMarked seen ns 0
marks-none seen ns long none = record { long = long; passed = refl; marked = none }

or-true : (b : Bool) → (b || true) ≡ true
or-true true = refl
or-true false = refl

or-false : (b : Bool) → (b || false) ≡ b
or-false true = refl
or-false false = refl

mark-at : (seen : List Bool) (n k : ℕ) → n < length seen → get_or (set seen n true) k false ≡ (get_or seen k false || (n == k))
mark-at seen n k below =
    elim (cases_Bool (n == k)) [
      | inl same ↦
          let e : k ≡ n = grind (arith, nat_tests) in
          get_or-set_at seen n k true false e below ∙ sym (rw same (or-true (get_or seen k false)))
      | inr other ↦
          let e : k ≢ n = grind (arith, nat_tests) in
          get_or-set_other seen n k true false e ∙ sym (rw other (or-false (get_or seen k false)))
    ]

pub differs-more : (before : List ℕ) (n : ℕ) (ns : List ℕ) → list_any (λ q. q == n) before ≡ false → differ_from before (n ∷ ns) ≡ differ_from (before ++ n ∷ []) ns
differs-more before n ns new = rw new refl

pub differs-twice : (before : List ℕ) (n : ℕ) (ns : List ℕ) → list_any (λ q. q == n) before ≡ true → differ_from before (n ∷ ns) ≡ false
differs-twice before n ns old = rw old refl

-- the number at a place and those after it
pub at-place : (ns : List ℕ) (at n : ℕ) → n ≡ get_or ns at n → at < length ns → drop at ns ≡ n ∷ drop (at + 1) ns
at-place ns at n e lt = drop_more ns at n lt ∙ ap (λ m. m ∷ drop (at + 1) ns) (sym e)

pub marks-more : {seen : List Bool} {ns : List ℕ} {at : ℕ} → IsMarked seen ns at → (n : ℕ) → n ≡ get_or ns at n → at < length ns → n < 1000 → get_or seen n false ≡ false
    → IsMarked (set seen n true) ns (at + 1)
marks-more {seen} {ns} {at} h n e lt below new = record {
  long = length-set seen n true ∙ h.long;
  passed = h.passed ∙ ap (differ_from (take at ns)) (at-place ns at n e lt)
      ∙ differs-more (take at ns) n (drop (at + 1) ns) (sym (h.marked n below) ∙ new)
      ∙ ap (λ m. differ_from (take at ns ++ m ∷ []) (drop (at + 1) ns)) e
      ∙ ap (λ before. differ_from before (drop (at + 1) ns)) (sym (take_more ns at n lt));
  marked = λ k less.
      mark-at seen n k (omega (arith, below, h.long)) ∙ ap (λ b. b || (n == k)) (h.marked k less)
      ∙ ap (λ m. list_any (λ q. q == k) (take at ns) || (m == k)) e
      ∙ sym (list_any_more (λ q. q == k) ns at n lt);
}

pub marks-twice : {seen : List Bool} {ns : List ℕ} {at : ℕ} → IsMarked seen ns at → (n : ℕ) → n ≡ get_or ns at n → at < length ns → n < 1000 → get_or seen n false ≡ true
    → false ≡ are_distinct ns
marks-twice {seen} {ns} {at} h n e lt below old =
    sym (h.passed ∙ ap (differ_from (take at ns)) (at-place ns at n e lt)
    ∙ differs-twice (take at ns) n (drop (at + 1) ns) (sym (h.marked n below) ∙ old))

pub marks-all : {seen : List Bool} {ns : List ℕ} {at : ℕ} → IsMarked seen ns at → length ns ≤ at → true ≡ are_distinct ns
marks-all {seen} {ns} {at} h end = sym (h.passed ∙ ap (differ_from (take at ns)) (drop_all at ns end))

-- the number of the item at a place
pub number-at : {T : Type 0} (xs : List (ℕ × T)) (i : ℕ) (x : ℕ × T) → x ≡ get_or xs i x → i < length xs → x.0 ≡ get_or (map (λ s. s.0) xs) i x.0
number-at xs i x e lt = ap (λ s. s.0) e ∙ sym (get_or-map (λ s. s.0) xs i x x.0 lt)

-- ---- without a table

-- whether the number of an item is among those before it
any-number : {T : Type 0} (n : ℕ) (xs : List (ℕ × T)) → list_any (λ s. s.0 == n) xs ≡ list_any (λ q. q == n) (map (λ s. s.0) xs)
any-number n [] = refl
any-number n (x ∷ xs) = ap (λ b. (x.0 == n) || b) (any-number n xs)

pub stands-before : {T : Type 0} (n at : ℕ) (xs : List (ℕ × T)) → list_any (λ s. s.0 == n) (take at xs) ≡ list_any (λ q. q == n) (take at (map (λ s. s.0) xs))
stands-before n at xs = any-number n (take at xs) ∙ ap (list_any (λ q. q == n)) (sym (take-map (λ s. s.0) at xs))
