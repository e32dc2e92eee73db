-- Replies on their way to their places.
use Rattle.std.specs.Prelude.{◌≡◌, ℕ, ◌-◌, ◌≤◌, List, map, length, Option, Some, slice_get}
use Rattle.work_pool.specs.declared.server.Answer.{Answer}
use Rattle.work_pool.specs.declared.server.Work.{Work}

-- the answers of each work
abbrev pub lists_of : {Pass Reply : Type 0} → List (Work Pass Reply) → List (List (Answer Reply))
lists_of works = map (λ work. work.answers.items) works

module _ {Reply : Type 0} where
  -- each number is one of so many slots
  abbrev pub AreSlots : ℕ → List (Answer Reply) → Type 0
  AreSlots count answers = (i : ℕ) (a : Answer Reply) → slice_get answers i ≡ Some a → (1 ≤ a.number) × (a.number ≤ count)

  -- no number stands twice
  abbrev pub AreDistinct : List (Answer Reply) → Type 0
  AreDistinct answers = (i j : ℕ) (a b : Answer Reply) → slice_get answers i ≡ Some a → slice_get answers j ≡ Some b → a.number ≡ b.number → i ≡ j

  -- the reply of each is in the slot of its number
  abbrev pub ArePlaced : List (Answer Reply) → List (Option Reply) → Type 0
  ArePlaced answers slots = (i : ℕ) (a : Answer Reply) → slice_get answers i ≡ Some a → slice_get slots (a.number - 1) ≡ Some (Some a.reply)

  -- there are as many slots as before, and those without one of these numbers have what they had
  pub record KeepsOthers (answers : List (Answer Reply)) (old new : List (Option Reply)) : Type 0 where
    pub count : length new ≡ length old
    pub others : (m : ℕ) → ((i : ℕ) (a : Answer Reply) → slice_get answers i ≡ Some a → a.number - 1 ≡ m → ⊥) → slice_get new m ≡ slice_get old m
