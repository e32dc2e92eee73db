-- Contents of plain text: what a field says, or the code of what is wrong with it, tested in this order.
use Rattle.std.specs.Prelude.{ℕ, ◌==◌, ◌&&◌, ◌||◌, not, Bool, false, List, [], ◌∷◌, length, take, drop, Option, Some, None, Result, Ok, is_some, if◌then◌else◌}
use Rattle.std.specs.List.{after_first, before_first, list_all, position}
use Rattle.corr_text.specs.Codes.{code}
use Rattle.corr_text.specs.First.{check, or_fault, ◌>>=◌}
use Rattle.corr_text.specs.Lines.{begins_with}
use Rattle.corr_text.specs.Sets.{is_in}
use Rattle.corr_text.specs.Slashes.{has_stray_slash}
use Rattle.corr_text.specs.declared.fault.Code.{Code}
use Rattle.corr_text.specs.declared.set.Set.TheVariants.{X, N, C}
use Rattle.fin_fields.specs.declared.field.Field.{Field}
use Rattle.fin_fields.specs.declared.pattern.Pattern.TheVariants.{Lines}
use Rattle.fin_fields.specs.Patterns.{is_run, meets}

-- the line of one line
abbrev pub only_line : List (List ℕ) → Option (List ℕ)
only_line (line ∷ []) = Some line
only_line _ = None

-- the line of a field of one line
abbrev pub one_line : Field → Option (List ℕ)
one_line f = only_line f.lines

-- bytes of this number
abbrev pub sized : ℕ → List ℕ → Option (List ℕ)
sized n bs = if length bs == n then Some bs else None

-- a slash
abbrev pub is_slash : ℕ → Bool
is_slash b = b == 47

-- a reference: 16x
unfoldable pub reference_of : Field → Result (List ℕ) Code
reference_of f = do
  line ← or_fault (one_line f) (code "P24")
  _ ← check (is_run (is_in X) 16 line) (code "P24")
  _ ← check (not (has_stray_slash line)) (code "T26")
  Ok line

-- `4!n`, a sign, `4!n`
abbrev pub is_clock : List ℕ → Bool
is_clock bs =
    (length bs == 9) && list_all (is_in N) (take 4 bs) && (begins_with 43 (drop 4 bs) || begins_with 45 (drop 4 bs)) && list_all (is_in N) (drop 5 bs)

-- `/`, 1 to 8 of C, `/`, and the clock
abbrev pub is_time : List ℕ → Bool
is_time [] = false
is_time (slash ∷ rest) =
    (slash == 47) && is_some (position is_slash rest) && is_run (is_in C) 8 (before_first is_slash rest) && is_clock (after_first is_slash rest)

-- a time
unfoldable pub time_of : Field → Result (List ℕ) Code
time_of f = do
  line ← or_fault (one_line f) (code "P24")
  _ ← check (is_time line) (code "P24")
  Ok line

-- one line: `most` x
unfoldable pub short_line_of : ℕ → Field → Result (List ℕ) Code
short_line_of most f = do
  line ← or_fault (one_line f) (code "P24")
  _ ← check (is_run (is_in X) most line) (code "P24")
  Ok line

-- 1 to `most` lines of 35x
unfoldable pub texts_of : ℕ → Field → Result (List (List ℕ)) Code
texts_of most f = do
  _ ← check (meets (Lines most 35) f.lines) (code "P24")
  Ok f.lines
