-- Slashes where a reference may have none.
use Rattle.std.specs.Prelude.{ℕ, ◌-◌, ◌==◌, ◌&&◌, ◌||◌, Bool, List, length, drop}
use Rattle.std.specs.List.{list_any, zip}
use Rattle.corr_text.specs.Lines.{begins_with}

-- two slashes in a row
abbrev pub has_double_slash : List ℕ → Bool
has_double_slash text = list_any (λ p. (p.0 == 47) && (p.1 == 47)) (zip text (drop 1 text))

-- a slash at an end, or two in a row
abbrev pub has_stray_slash : List ℕ → Bool
has_stray_slash text = begins_with 47 text || begins_with 47 (drop (length text - 1) text) || has_double_slash text
