-- Items that occur several times, and how often each does.
use Rattle.std.specs.Prelude.{ℕ, Bool, List, [], filter, length, map}
use Rattle.indexmap.specs.IndexSet.{insert_all}

module _ {A : Type 0} (same : A → A → Bool) where
  -- each item once, in the order of the first of each
  abbrev pub firsts : List A → List A
  firsts xs = insert_all same [] xs

  -- how many items are the same as x
  abbrev pub count_of : A → List A → ℕ
  count_of x xs = length (filter (same x) xs)

  -- each item once, with how many there are of it
  abbrev pub tally_of : List A → List (A × ℕ)
  tally_of xs = map (λ x. (x, count_of x xs)) (firsts xs)
