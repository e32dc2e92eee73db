-- The numbers of a statement and of its page.
use Rattle.std.specs.Prelude.{ℕ, List, length, Option, Some, None, option_and_then, option_map, Result, is_some, nat_le, if◌then◌else◌}
use Rattle.std.specs.List.{after_first, before_first, position}
use Rattle.corr_text.specs.Codes.{code}
use Rattle.corr_text.specs.Digits.{number_of}
use Rattle.corr_text.specs.First.{or_fault, ◌>>=◌}
use Rattle.corr_text.specs.declared.fault.Code.{Code}
use Rattle.fin_fields.specs.declared.field.Field.{Field}
use Rattle.fin_contents.specs.Plain.{is_slash, one_line}
use Rattle.mt950.specs.declared.number.Numbers.{Numbers}

-- the number that 1 to 5 digits write
abbrev pub few_digits_of : List ℕ → Option ℕ
few_digits_of bs = if nat_le (length bs) 5 then number_of bs else None

-- a statement's number alone
abbrev pub number_alone : List ℕ → Option Numbers
number_alone bs = option_map (λ n. record { number = n; page = None }) (few_digits_of bs)

-- a statement's number, and its page's
abbrev pub number_and_page : List ℕ → List ℕ → Option Numbers
number_and_page bs page = option_and_then (λ n. option_map (λ k. record { number = n; page = Some k }) (few_digits_of page)) (few_digits_of bs)

-- what a line says: the page's number stands after the first slash
unfoldable pub numbers_in : List ℕ → Option Numbers
numbers_in line =
    if is_some (position is_slash line) then number_and_page (before_first is_slash line) (after_first is_slash line)
    else number_alone line

-- 28C: `5n[/5n]`
unfoldable pub numbers_of : Field → Result Numbers Code
numbers_of f = do
  line ← or_fault (one_line f) (code "P24")
  or_fault (numbers_in line) (code "P24")
