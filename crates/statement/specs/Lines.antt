-- The lines of an account's statement.
use Rattle.std.specs.Prelude.{ℕ, ◌+◌, Bool, true, false, List, [], ◌∷◌, ◌++◌, drop, map, Some, None, codes, int_le, is_some, if◌then◌else◌}
use Rattle.std.specs.Ordering.{int_eq}
use Rattle.std.specs.List.{filter}
use Rattle.corr_ids.specs.Day.{yymmdd_of}
use Rattle.corr_ids.specs.declared.day.Day.{Day}
use Rattle.day_model.specs.Chart.{Chart}
use Rattle.day_model.specs.declared.entry.Entry.{Entry}
use Rattle.day_model.specs.declared.pay.Leg.{Leg}
use Rattle.day_model.specs.declared.pay.Mt.{Mt}
use Rattle.day_model.specs.declared.pay.Mt.TheVariants.{Transfer, Cover}
use Rattle.day_model.specs.declared.pay.Side.{Side}
use Rattle.day_model.specs.declared.pay.Side.TheVariants.{Debit, Credit}
use Rattle.mt950.specs.declared.entry.Line61.{Line61}
use Rattle.mt950.specs.declared.entry.Mark.{Mark}
use Rattle.mt950.specs.declared.entry.Mark.TheVariants as mark
use Rattle.pay_returns.specs.References.{own_reference, quote_text}
use Rattle.pay_returns.specs.Returns.{returns_place}
use Rattle.statement.specs.Legs.{legs_on}

-- the entries up to a day
abbrev pub up_to_day : Day → List Entry → List Entry
up_to_day day entries = filter (λ entry. int_le entry.day.0 day.0) entries

-- the month and the day of a date
abbrev pub mmdd_of : Day → List ℕ
mmdd_of day = drop 2 (yymmdd_of day)

-- the mark of a leg: that of its side, C or D; in a return a credit reverses a debit, RD, and a debit reverses a credit, RC
abbrev pub statement_mark : Side → Bool → Mark
statement_mark Credit false = mark.C
statement_mark Credit true = mark.RD
statement_mark Debit false = mark.D
statement_mark Debit true = mark.RC

-- the type of the transaction by the message that asked for it
abbrev pub transaction_type : Mt → List ℕ
transaction_type Transfer = codes "S103"
transaction_type Cover = codes "S202"

-- a leg of the entry at a place, which may be a return, as a line of a day
abbrev pub entry_line : Day → ℕ → Bool → Entry → Leg → Line61
entry_line day place returned entry leg = record {
  value = entry.pay.value;
  entry = Some (mmdd_of day);
  mark = statement_mark leg.side returned;
  funds = None;
  amount = leg.amount;
  kind = transaction_type entry.pay.mt;
  reference = quote_text place leg.quote;
  servicer = Some (own_reference place);
  detail = None;
}

-- a line with the place of its entry
pub record Placed : Type 0 where
  pub place : ℕ
  pub line : Line61

-- the lines of the entry at a place on a day, where a test tells at which places returns stand
abbrev pub entry_lines : (ℕ → Bool) → ℕ → Day → ℕ → Entry → List Placed
entry_lines returned n day place entry =
    if int_eq entry.day.0 day.0 then map (λ leg. record { place = place; line = entry_line day place (returned place) entry leg }) (legs_on n entry) else []

-- those of entries in turn, the first of which stands at this place
abbrev pub lines_from : (ℕ → Bool) → ℕ → Day → ℕ → List Entry → List Placed
lines_from returned n day place [] = []
lines_from returned n day place (entry ∷ entries) = entry_lines returned n day place entry ++ lines_from returned n day (place + 1) entries

-- the entry at a place is a return
abbrev pub is_return : Chart → List Entry → ℕ → Bool
is_return chart entries place = is_some (returns_place chart entries place)

-- the lines of account n on a day: the entries of that day that are booked on it, in the order of the journal
abbrev pub lines_on : Chart → ℕ → Day → List Entry → List Placed
lines_on chart n day entries = lines_from (is_return chart entries) n day 1 entries
