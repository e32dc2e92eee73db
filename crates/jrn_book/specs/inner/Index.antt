-- The places of entries by their references.
use Rattle.std.specs.Prelude.{ℕ, List, Option}
use Rattle.std.specs.List.{position_from}
use Rattle.std.specs.Str.{bytes_eq}

-- the place of the first of these references that is this one, from 1
abbrev pub place_in : List ℕ → List (List ℕ) → Option ℕ
place_in mir references = position_from (bytes_eq mir) 1 references
