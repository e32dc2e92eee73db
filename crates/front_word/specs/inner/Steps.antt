-- What a step tells its caller.
use Rattle.std.specs.Prelude.{◌≡◌, ℕ, ◌≤◌, length}
use Rattle.atomic_table.specs.Table.{Me, Step, step}
use mathlib.Core.Option.{none}
use Rattle.front_word.specs.declared.view.View.{View}
use Rattle.front_word.specs.inner.Views.{having_seen}
use Rattle.front_word.specs.inner.Rule.{IsKept, IsDistinct}

-- what the steps below tell is the same of each step
abbrev pub any_step : Step (Unit {0})
any_step = step 0 0 0 0 none

-- a seat: its view, and what it holds of slots
abbrev pub Sat : Type 0
Sat = Me (Unit {0}) View

-- the view became f of what it was
abbrev pub Becomes : (View → View) → Step (Unit {0}) → Sat → ℕ → Sat → Type 0
Becomes f st m n w = (w.0 ≡ f m.0) × (w.1 ≡ m.1)

-- a pass saw the word. What it keeps is as the rule says
pub record Looks (v : View) (n : ℕ) : Type 0 where
  pub kept : IsKept v
  pub later : v.seen ≤ n
  pub known : length v.known ≤ n

-- a pass looks: it has seen the word
abbrev pub pass_looks : Step (Unit {0}) → Sat → ℕ → Sat → Type 0
pass_looks st m n w = (w.0 ≡ having_seen n m.0) × (w.1 ≡ m.1) × Looks m.0 n

-- the writer saw the word, which is the length of its list
pub record Watches (v : View) (n : ℕ) : Type 0 where
  pub kept : IsKept v
  pub word : n ≡ length v.known
  pub back : IsDistinct v.back

-- the writer looks, and stays as it is
abbrev pub writer_looks : Step (Unit {0}) → Sat → ℕ → Sat → Type 0
writer_looks st m n w = (w.0 ≡ m.0) × (w.1 ≡ m.1) × Watches m.0 n
