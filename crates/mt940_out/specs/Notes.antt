-- What a customer is told of a payment.
use Rattle.std.specs.Prelude.{ℕ, ◌||◌, not, Bool, List, [], ◌++◌, take, codes, find, zero, suc, slice_get}
use Rattle.std.specs.List.{filter}
use Rattle.std.specs.Option.{option_map_or}
use Rattle.corr_text.specs.Lines.{begins_with}
use Rattle.fin_fields.specs.Faults.{is_empty}
use Rattle.fin_fields.specs.declared.field.Field.{Field}
use Rattle.day_model.specs.declared.entry.Entry.{Entry}
use Rattle.day_model.specs.declared.pay.Mt.{Mt}
use Rattle.day_model.specs.declared.pay.Mt.TheVariants.{Transfer, Cover}
use Rattle.day_model.specs.declared.pay.Pay.{Pay}
use Rattle.advices.specs.Fields.{is_named}
use Rattle.advices.specs.Received.{fields_in, sequence_b}

-- the fields that tell of the transfer: all of an MT103, the second sequence of a cover
abbrev pub transfer_fields : Mt → List Field → List Field
transfer_fields Transfer fs = fs
transfer_fields Cover fs = sequence_b fs

-- the lines of the first field of a name, none where there is no such field
abbrev pub lines_named : ℕ → List ℕ → List Field → List (List ℕ)
lines_named tag letters fs = option_map_or (λ f. f.lines) (find (is_named tag letters) fs) []

-- a line that may continue a field: it isn't empty, and begins with neither `:` nor `-`
abbrev pub may_continue : List ℕ → Bool
may_continue line = not (is_empty line || begins_with 58 line || begins_with 45 line)

-- the first two lines of 50a, and of 70 the lines that may stand behind them
abbrev pub note_in : List Field → List (List ℕ)
note_in fs = take 2 (lines_named 50 (codes "AFK") fs) ++ filter may_continue (lines_named 70 (codes " ") fs)

-- the note of a payment
abbrev pub note_of : Pay → List (List ℕ)
note_of pay = note_in (transfer_fields pay.mt (fields_in pay.text))

-- that of the entry at a place, from 1
abbrev pub note_at : List Entry → ℕ → List (List ℕ)
note_at entries zero = []
note_at entries (suc k) = option_map_or (λ entry. note_of entry.pay) (slice_get entries k) []
