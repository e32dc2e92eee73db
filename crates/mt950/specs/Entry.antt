-- Statement lines: what a field 61 says, or the code of what is wrong with it, and what a line adds to a balance.
use Rattle.std.specs.Prelude.{ℕ, Result, Ok, ℤ, pos, neg_ℤ}
use Rattle.corr_text.specs.Codes.{code}
use Rattle.corr_text.specs.First.{or_fault, ◌>>=◌}
use Rattle.corr_text.specs.declared.fault.Code.{Code}
use Rattle.corr_ids.specs.Day.{day_of}
use Rattle.fin_fields.specs.declared.field.Field.{Field}
use Rattle.fin_contents.specs.Money.{minor_in}
use Rattle.mt950.specs.Parts.{detail_in, line_parts}
use Rattle.mt950.specs.declared.entry.Line61.{Line61}
use Rattle.mt950.specs.declared.entry.Mark.{Mark}
use Rattle.mt950.specs.declared.entry.Mark.TheVariants.{C, D, RC, RD}

-- 61: the form of the whole field, then the date, then the amount in a currency of so many decimals
unfoldable pub line_of : ℕ → Field → Result Line61 Code
line_of decimals f = do
  lines ← or_fault (detail_in f.lines) (code "P24")
  parts ← or_fault (line_parts lines.0) (code "P24")
  value ← or_fault (day_of parts.date) (code "T50")
  amount ← minor_in decimals parts.amount
  Ok (record { value = value; entry = parts.entry; mark = parts.mark; funds = parts.funds; amount = amount; kind = parts.kind; reference = parts.reference; servicer = parts.servicer; detail = lines.1 })

-- what an amount of this mark adds to a balance: credits and reversed debits add it
abbrev pub signed_amount : Mark → ℕ → ℤ
signed_amount C amount = pos amount
signed_amount RD amount = pos amount
signed_amount D amount = neg_ℤ (pos amount)
signed_amount RC amount = neg_ℤ (pos amount)

-- what a line adds to a balance
abbrev pub effect_of : Line61 → ℤ
effect_of line = signed_amount line.mark line.amount.0
