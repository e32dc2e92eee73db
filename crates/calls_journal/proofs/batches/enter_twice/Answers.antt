use Rattle.std.proofs.Common.{ℕ, zero, suc, ◌<◌, List, [], ◌∷◌, slice_index_or, arith}
use Rattle.day_model.specs.declared.entry.Entry.{Entry}
use Rattle.jrn_codec.specs.Record.{IsEntry}
use Rattle.calls_journal.proofs.batches.enter_twice.Goals as goal

each_of_three : (first second third : Entry) → IsEntry first → IsEntry second → IsEntry third
    → (k : ℕ) (d : Entry) → k < 3 → IsEntry (slice_index_or (first ∷ second ∷ third ∷ []) k d)
each_of_three first second third one two three zero d within = one
each_of_three first second third one two three (suc zero) d within = two
each_of_three first second third one two three (suc (suc zero)) d within = three
each_of_three first second third one two three (suc (suc (suc k))) d within = absurd (omega (arith, within))

pub give_twice-requires-clause-written : goal.give_twice-requires-clause-written
give_twice-requires-clause-written g c =
    each_of_three c.in_ok-entry_of.field-0 c.in_ok-entry_of-2.field-0 c.in_ok-entry_of-3.field-0 c.in_ok-entry_of.ensures c.in_ok-entry_of-2.ensures c.in_ok-entry_of-3.ensures
