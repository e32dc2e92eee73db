-- What contracts see of a writer and of a pass.
use Rattle.std.specs.Prelude.{◌≡◌, ℕ, ◌+◌, ◌<◌, List, [], ◌∷◌, ◌++◌, length, Option, Some, None, slice_get}
use Rattle.atomic_table.specs.Seated.{TableId}
use Rattle.day_model.specs.declared.entry.Entry.{Entry}
use Rattle.front_word.specs.declared.view.Act.{Act}
use Rattle.front_word.specs.declared.view.View.{View}
use Rattle.front_word.specs.Rule.{Among}

-- what contracts see of a writer
pub record WriterKnows : Type 0 where
  pub table : TableId
  pub base : List Entry
  pub acts : List Act
  pub mark : ℕ
  pub made : ℕ
  pub owed : Option ℕ
  pub back : List ℕ

-- a writer by its table and its view
abbrev pub writer_knows : TableId → View → WriterKnows
writer_knows table v = record { table = table; base = v.base; acts = v.known; mark = v.mark; made = v.made; owed = v.owed; back = v.back }

-- what contracts see of a pass
pub record PassKnows : Type 0 where
  pub table : TableId
  pub number : ℕ
  pub base : ℕ
  pub known : List Act
  pub seen : ℕ
  pub mine : List ℕ
  pub mark : ℕ
  pub spare : ℕ

-- a pass by its table, its view, its places and its room
abbrev pub pass_knows : TableId → View → List ℕ → ℕ → PassKnows
pass_knows table v mine spare = record { table = table; number = v.number; base = length v.base; known = v.known; seen = v.seen; mine = mine; mark = v.mark; spare = spare }

-- each entry that is tagged with this number has its place among these
abbrev pub HasPlaces : ℕ → ℕ → List Act → List ℕ → Type 0
HasPlaces base number known mine = (i : ℕ) (a : Act) → slice_get known i ≡ Some a → a.by ≡ number → Among (base + i + 1) mine

-- the writer that has just begun, on these entries
abbrev pub beginner : TableId → List Entry → WriterKnows
beginner table base = record { table = table; base = base; acts = []; mark = 0; made = 0; owed = None; back = [] }

-- a new pass of this writer
abbrev pub newcomer : WriterKnows → ℕ → PassKnows
newcomer w spare = record { table = w.table; number = w.made + 1; base = length w.base; known = w.acts; seen = 0; mine = []; mark = w.mark; spare = spare }

-- the places, and one more where it is given
abbrev pub with_place : List ℕ → Option ℕ → List ℕ
with_place mine None = mine
with_place mine (Some place) = mine ++ place ∷ []

-- what a place that is given needs: room
abbrev pub HasRoom : Option ℕ → ℕ → Type 0
HasRoom None spare = Unit {0}
HasRoom (Some place) spare = 0 < spare

-- the pass knows what the writer knows; a place may have come
abbrev pub having_met : PassKnows → WriterKnows → Option ℕ → ℕ → ℕ → PassKnows
having_met p w place seen spare = record p { known = w.acts; mark = w.mark; seen = seen; mine = with_place p.mine place; spare = spare }

-- how many places that is
abbrev pub places_in : Option ℕ → ℕ
places_in None = 0
places_in (Some place) = 1
