-- The parts of a statement line, field 61: each at the front of what those before it leave.
use Rattle.std.specs.Prelude.{ℕ, ◌+◌, ◌==◌, ◌&&◌, ◌||◌, not, Bool, true, List, [], ◌∷◌, length, take, drop, Option, Some, None, nat_le, nat_lt, position, unwrap_or, if◌then◌else◌}
use Rattle.std.specs.Char.{is_ascii_digit, is_ascii_uppercase}
use Rattle.std.specs.List.{list_all, zip}
use Rattle.std.specs.Option.{option_map_or}
use Rattle.corr_text.specs.Lines.{begins_with}
use Rattle.corr_text.specs.Sets.{is_in}
use Rattle.corr_text.specs.declared.set.Set.TheVariants.{X, N, C as capital_or_digit}
use Rattle.corr_ids.specs.Day.{◌>>=◌}
use Rattle.corr_money.specs.Amounts.{is_comma}
use Rattle.fin_fields.specs.Patterns.{is_run}
use Rattle.mt950.specs.declared.entry.Mark.{Mark}
use Rattle.mt950.specs.declared.entry.Mark.TheVariants.{C, D, RC, RD}

-- the value date: six digits
abbrev pub date_in : List ℕ → Option (List ℕ × List ℕ)
date_in line = if nat_le 6 (length line) && list_all (is_in N) (take 6 line) then Some (take 6 line, drop 6 line) else None

-- the entry date: four digits, where they stand there
abbrev pub entry_date_part : List ℕ → Option (List ℕ) × List ℕ
entry_date_part rest = if nat_le 4 (length rest) && list_all (is_in N) (take 4 rest) then (Some (take 4 rest), drop 4 rest) else (None, rest)

-- after R: the reversal of a credit or of a debit
abbrev pub reversal_in : List ℕ → Option (Mark × List ℕ)
reversal_in [] = None
reversal_in (letter ∷ rest) = if letter == 67 then Some (RC, rest) else if letter == 68 then Some (RD, rest) else None

-- the mark: RC, RD, C or D
abbrev pub mark_in : List ℕ → Option (Mark × List ℕ)
mark_in [] = None
mark_in (letter ∷ rest) =
    if letter == 82 then reversal_in rest
    else if letter == 67 then Some (C, rest)
    else if letter == 68 then Some (D, rest)
    else None

-- the funds code: a capital letter, where one stands there
abbrev pub funds_in : List ℕ → Option ℕ × List ℕ
funds_in [] = (None, [])
funds_in (letter ∷ rest) = if is_ascii_uppercase letter then (Some letter, rest) else (None, letter ∷ rest)

-- where the digits and commas at the front end
abbrev pub end_of_amount : List ℕ → ℕ
end_of_amount rest = unwrap_or (position (λ b. not (is_ascii_digit b || is_comma b)) rest) (length rest)

-- the amount: all of them, one at least
abbrev pub amount_part : List ℕ → Option (List ℕ × List ℕ)
amount_part rest = if nat_lt 0 (end_of_amount rest) then Some (take (end_of_amount rest) rest, drop (end_of_amount rest) rest) else None

-- S and three digits, or N or F and three of C
abbrev pub is_entry_type : List ℕ → Bool
is_entry_type kind =
    (begins_with 83 kind && list_all (is_in N) (drop 1 kind)) || ((begins_with 78 kind || begins_with 70 kind) && list_all (is_in capital_or_digit) (drop 1 kind))

-- the type: four such bytes
abbrev pub kind_in : List ℕ → Option (List ℕ × List ℕ)
kind_in rest = if nat_le 4 (length rest) && is_entry_type (take 4 rest) then Some (take 4 rest, drop 4 rest) else None

-- where the first two slashes in a row stand
abbrev pub double_slash_in : List ℕ → Option ℕ
double_slash_in rest = position (λ p. (p.0 == 47) && (p.1 == 47)) (zip rest (drop 1 rest))

-- the owner's reference, which the first two slashes end, and the servicer's after them
abbrev pub split_references : List ℕ → Option ℕ → List ℕ × Option (List ℕ)
split_references rest None = (rest, None)
split_references rest (Some at) = (take at rest, Some (drop (at + 2) rest))

-- each is 1 to 16 of X
abbrev pub are_references : List ℕ × Option (List ℕ) → Bool
are_references split = is_run (is_in X) 16 split.0 && option_map_or (λ servicer. is_run (is_in X) 16 servicer) split.1 true

-- the references at the end of a line
abbrev pub references_in : List ℕ → Option (List ℕ × Option (List ℕ))
references_in rest =
    let split = split_references rest (double_slash_in rest) in
    if are_references split then Some split else None

-- the parts of a first line in their order
pub record LineParts : Type 0 where
  pub date : List ℕ
  pub entry : Option (List ℕ)
  pub mark : Mark
  pub funds : Option ℕ
  pub amount : List ℕ
  pub kind : List ℕ
  pub reference : List ℕ
  pub servicer : Option (List ℕ)

-- the parts of a first line, none where it has another form
unfoldable pub line_parts : List ℕ → Option LineParts
line_parts line = do
  date ← date_in line
  let entry = entry_date_part date.1
  mark ← mark_in entry.1
  let funds = funds_in mark.1
  amount ← amount_part funds.1
  kind ← kind_in amount.1
  references ← references_in kind.1
  Some (record { date = date.0; entry = entry.0; mark = mark.0; funds = funds.0; amount = amount.0; kind = kind.0; reference = references.0; servicer = references.1 })

-- the first line, and the further one of 1 to 34 of X
abbrev pub detail_in : List (List ℕ) → Option (List ℕ × Option (List ℕ))
detail_in (line ∷ []) = Some (line, None)
detail_in (line ∷ detail ∷ []) = if is_run (is_in X) 34 detail then Some (line, Some detail) else None
detail_in _ = None
