-- The rule of the word: what is true of the word and of all views between any two steps.
use Rattle.std.specs.Prelude.{◌≡◌, ℕ, ◌≤◌, List, length, Some, slice_get, slice_index}
use mathlib.Core.Option.{some}
use mathlib.Core.List.{IsPrefix}
use lib.ListN.{get_elem?}
use Rattle.front_word.specs.declared.view.View.{View}
use Rattle.front_word.specs.declared.view.Of.TheVariants.{Own, Other}
use Rattle.front_word.specs.declared.view.Role.TheVariants.{Writer, WriterCopy, Pass, PassCopy}
use Rattle.front_word.specs.inner.Prefix.{longer}
use Rattle.front_word.specs.Rule.{OwedPast, Among, IsNumber, AreTagged}

-- what the seat keeps is a beginning of what it knows. A writer's own list and mark were no less than the other's
pub record IsKept (v : View) : Type 0 where
  pub own : IsPrefix v.kept.own v.known
  pub other : IsPrefix v.kept.other v.known
  pub writes : v.role ≡ Writer → (length v.kept.other ≤ length v.kept.own) × (v.kept.other_mark ≤ v.kept.own_mark) × (v.kept.other_seen ≤ length v.kept.own)
  pub of_own : v.kept.of_pass ≡ Own → OwedPast (longer v.kept.own v.kept.other) (length v.kept.own) v.kept.number v.kept.owed
  pub of_other : v.kept.of_pass ≡ Other → OwedPast (longer v.kept.own v.kept.other) (length v.kept.other) v.kept.number v.kept.owed

-- no number stands twice
abbrev pub IsDistinct : List ℕ → Type 0
IsDistinct xs = (i j k : ℕ) → slice_get xs i ≡ Some k → slice_get xs j ≡ Some k → i ≡ j

-- what a pass that isn't a copy knows of the writer's list, and that no other seat has its number
pub record IsPass (writer : View) (seat_of reach_of : ℕ → ℕ) (seat : ℕ) (v : View) : Type 0 where
  pub number : IsNumber writer.made v.number
  pub alone : seat_of v.number ≡ seat
  pub reach : reach_of v.number ≡ length v.known
  pub away : Among v.number writer.back → ⊥
  pub owed : OwedPast writer.known (length v.known) v.number writer.owed

-- what one seat knows, beside the writer's
pub record Fits (writer : View) (desk : ℕ) (seat_of reach_of : ℕ → ℕ) (seat : ℕ) (v : View) : Type 0 where
  pub known : IsPrefix v.known writer.known
  pub mark : v.mark ≤ writer.mark
  pub seen : v.seen ≤ length writer.known
  pub kept : IsKept v
  pub writes : v.role ≡ Writer → seat ≡ desk
  pub notes : v.role ≡ WriterCopy → length v.known ≡ length writer.known → (k : ℕ) → writer.owed ≡ Some k → v.owed ≡ Some k
  pub is_pass : v.role ≡ Pass → IsPass writer seat_of reach_of seat v
  pub pass_notes : v.role ≡ PassCopy → IsNumber writer.made v.number × (length v.known ≤ reach_of v.number)

-- the writer's seat is the one at the desk
pub record IsRuled (desk : ℕ) (writer : View) (seat_of reach_of : ℕ → ℕ) (words : List ℕ) (views : List View) : Type 0 where
  pub at : get_elem? views desk ≡ some writer
  pub writes : writer.role ≡ Writer
  pub one : length words ≡ 1
  pub word : slice_index words 0 ≡ length writer.known
  pub tags : AreTagged writer.made writer.known
  pub back : IsDistinct writer.back
  pub numbers : (k : ℕ) → Among k writer.back → IsNumber writer.made k
  pub fits : (seat : ℕ) (v : View) → get_elem? views seat ≡ some v → Fits writer desk seat_of reach_of seat v

-- some writer's seat, and some seat and reach of each pass, are as the rule says
abbrev pub Ruled : List ℕ → List View → Type 0
Ruled words views = (desk : ℕ) × (writer : View) × (seat_of : ℕ → ℕ) × (reach_of : ℕ → ℕ) × IsRuled desk writer seat_of reach_of words views
