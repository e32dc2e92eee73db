-- Room for the record of a pay.
use Rattle.std.specs.Prelude.{ℕ, length, pos}
use Rattle.day_model.specs.declared.pay.Pay.{Pay}
use Rattle.day_model.specs.declared.entry.Outcome.TheVariants.{Unfunded}
use Rattle.jrn_codec.specs.Record.{entry_bytes}

-- the longest record that a pay may have: that of an entry that isn't funded
abbrev pub longest_record : Pay → ℕ
longest_record pay = length (entry_bytes (record { pay = pay; day = record { 0 = pos 3652 }; outcome = Unfunded 1 (pos 0) }))
