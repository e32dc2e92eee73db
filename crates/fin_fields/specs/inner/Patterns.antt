-- The patterns of plain contents.
use Rattle.std.specs.Prelude.{ℕ, ◌&&◌, Bool, List, length, nat_le, nat_eq}
use Rattle.std.specs.List.{list_all}
use Rattle.corr_text.specs.declared.set.Set.TheVariants.{X}
use Rattle.corr_text.specs.Sets.{is_in}
use Rattle.fin_fields.specs.declared.pattern.Pattern.{Pattern}
use Rattle.fin_fields.specs.declared.pattern.Pattern.TheVariants.{Lines, Fixed, UpTo}
use Rattle.fin_fields.specs.Patterns.{is_run}

-- 1 to len bytes
abbrev pub is_short : ℕ → List ℕ → Bool
is_short len line = nat_le 1 (length line) && nat_le (length line) len

-- how many lines a pattern has
abbrev pub fits_count : Pattern → ℕ → Bool
fits_count (Lines max len) count = nat_le 1 count && nat_le count max
fits_count (Fixed set len) count = nat_eq count 1
fits_count (UpTo set len) count = nat_eq count 1

-- what each of its lines is
abbrev pub fits_line : Pattern → List ℕ → Bool
fits_line (Lines max len) line = is_run (is_in X) len line
fits_line (Fixed set len) line = nat_eq (length line) len && list_all (is_in set) line
fits_line (UpTo set len) line = is_run (is_in set) len line
