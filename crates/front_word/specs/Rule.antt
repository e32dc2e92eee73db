-- The rule of the word: what is true of the word and of all views between any two steps.
use Rattle.std.specs.Prelude.{◌≡◌, ℕ, suc, ◌≤◌, List, length, Option, Some, slice_get}
use mathlib.Core.Option.{some}
use mathlib.Core.List.{IsPrefix}
use lib.ListN.{get_elem?}
use Rattle.front_word.specs.declared.view.Act.{Act}

-- an entry of the list past the first n is tagged k only where it is owed to k, and then it is the last
abbrev pub OwedPast : List Act → ℕ → ℕ → Option ℕ → Type 0
OwedPast log n k owed = (i : ℕ) (a : Act) → slice_get log i ≡ Some a → n ≤ i → a.by ≡ k → (owed ≡ Some k) × (suc i ≡ length log)

-- the number stands in the list
abbrev pub Among : ℕ → List ℕ → Type 0
Among k xs = (i : ℕ) × (slice_get xs i ≡ Some k)

-- a pass's number
abbrev pub IsNumber : ℕ → ℕ → Type 0
IsNumber made k = (1 ≤ k) × (k ≤ made)

-- each entry is tagged with the number of a pass
abbrev pub AreTagged : ℕ → List Act → Type 0
AreTagged made log = (i : ℕ) (a : Act) → slice_get log i ≡ Some a → IsNumber made a.by
