-- Passes that a writer makes one after the other, and takes back.
use Rattle.std.specs.Prelude.{◌≡◌, ℕ, ◌+◌, ◌≤◌, List, length, Some, None, slice_get}
use mathlib.Core.List.{IsPrefix}
use Rattle.front_word.specs.Known.{WriterKnows, PassKnows, HasPlaces, newcomer}
use Rattle.front_word.specs.Rule.{Among, OwedPast}
use Rattle.front_word.specs.inner.Rule.{IsDistinct}

-- so many passes, the first of which was made first
pub record AreMade (w : WriterKnows) (count : ℕ) (passes : List PassKnows) : Type 0 where
  pub len : length passes ≡ count
  pub each : (k : ℕ) (p : PassKnows) → slice_get passes k ≡ Some p → p ≡ newcomer (record w { made = k }) p.spare

-- what is known of a pass that was taken back
pub record IsTakenBack (w : WriterKnows) (p : PassKnows) : Type 0 where
  pub known : IsPrefix p.known w.acts
  pub owed : OwedPast w.acts (length p.known) p.number None
  pub places : HasPlaces p.base p.number p.known p.mine
  pub mark : p.mark ≤ w.mark

-- all passes but the first ones, which are left, were taken back
pub record AreTaken (w : WriterKnows) (passes : List PassKnows) (w' : WriterKnows) (left : List PassKnows) : Type 0 where
  pub writer : w' ≡ record w { back = w'.back }
  pub begin : IsPrefix left passes
  pub done : (k : ℕ) (p : PassKnows) → slice_get passes k ≡ Some p → length left ≤ k → IsTakenBack w p
  pub back : IsDistinct w'.back
  pub count : length w'.back + length left ≡ length passes
  pub owners : (n : ℕ) → Among n w'.back → (k : ℕ) × (p : PassKnows) × (slice_get passes k ≡ Some p) × (p.number ≡ n)
