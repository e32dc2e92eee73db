-- The passes of books.
use Rattle.std.specs.Prelude.{◌≡◌, ℕ, ◌+◌, ◌≤◌, List, [], length, Some, slice_get}
use Rattle.front_word.specs.Known.{PassKnows}
use Rattle.front_word.specs.Rule.{IsNumber}
use Rattle.corr_books.specs.Opening.{Opening}

-- the pass was made by these books
pub record Belongs (o : Opening) (p : PassKnows) : Type 0 where
  pub table : p.table ≡ o.word
  pub base : p.base ≡ length o.base
  pub number : IsNumber o.made p.number

-- each of the passes was
abbrev pub AllBelong : Opening → List PassKnows → Type 0
AllBelong o passes = (k : ℕ) (p : PassKnows) → slice_get passes k ≡ Some p → Belongs o p

-- a pass that was just made: it has the next number, knows no entry past the opening and of no fault since, and no place is its own
pub record IsNew (o : Opening) (k : ℕ) (p : PassKnows) : Type 0 where
  pub belongs : Belongs o p
  pub number : p.number ≡ k + 1
  pub known : p.known ≡ []
  pub mine : p.mine ≡ []
  pub mark : p.mark ≤ o.at_open

-- all passes of the books, just made, in the order of their numbers
pub record AreNew (o : Opening) (passes : List PassKnows) : Type 0 where
  pub count : length passes ≡ o.made
  pub each : (k : ℕ) (p : PassKnows) → slice_get passes k ≡ Some p → IsNew o k p
