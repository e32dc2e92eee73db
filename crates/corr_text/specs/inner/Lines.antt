-- The lines of a text. A line feed ends a line, and one carriage return before it belongs to that end.
use Rattle.std.specs.Prelude.{ℕ, ◌==◌, List, [], ◌∷◌, if◌then◌else◌}

-- a line without the carriage return at its end
abbrev pub trimmed : List ℕ → List ℕ
trimmed [] = []
trimmed (b ∷ []) = if b == 13 then [] else b ∷ []
trimmed (b ∷ c ∷ cs) = b ∷ trimmed (c ∷ cs)
