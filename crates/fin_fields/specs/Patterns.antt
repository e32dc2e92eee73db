-- The patterns of plain contents.
use Rattle.std.specs.Prelude.{ℕ, ◌&&◌, Bool, false, List, [], ◌∷◌, length, nat_le, nat_eq}
use Rattle.std.specs.List.{list_all}
use Rattle.corr_text.specs.declared.set.Set.TheVariants.{X}
use Rattle.corr_text.specs.Sets.{is_in}
use Rattle.fin_fields.specs.declared.pattern.Pattern.{Pattern}
use Rattle.fin_fields.specs.declared.pattern.Pattern.TheVariants.{Lines, Fixed, UpTo}

-- 1 to len of these bytes
abbrev pub is_run : (ℕ → Bool) → ℕ → List ℕ → Bool
is_run of len line = nat_le 1 (length line) && nat_le (length line) len && list_all of line

-- one line that meets a test
abbrev pub is_one_line : (List ℕ → Bool) → List (List ℕ) → Bool
is_one_line test (line ∷ []) = test line
is_one_line test _ = false

-- whether lines meet a pattern
abbrev pub meets : Pattern → List (List ℕ) → Bool
meets (Lines max len) lines = nat_le 1 (length lines) && nat_le (length lines) max && list_all (is_run (is_in X) len) lines
meets (Fixed set len) lines = is_one_line (λ line. nat_eq (length line) len && list_all (is_in set) line) lines
meets (UpTo set len) lines = is_one_line (is_run (is_in set) len) lines
