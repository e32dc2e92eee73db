-- The passes of books.
use Rattle.std.specs.Prelude.{◌≡◌, ℕ, List, Some, slice_get}
use Rattle.atomic_table.specs.Seated.{TableId}
use Rattle.front_word.specs.Known.{PassKnows}

-- each of the passes is of this table
abbrev pub AllFit : TableId → List PassKnows → Type 0
AllFit word passes = (k : ℕ) (p : PassKnows) → slice_get passes k ≡ Some p → p.table ≡ word
