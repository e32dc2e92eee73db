use Rattle.std.proofs.Common.{map}
use Rattle.csv.specs.Records.{fields_of}
use Rattle.ref_tables.proofs.laws.Entered.{Entered}
use Rattle.ref_tables.proofs.keyed.enter_rows.Given as goal

abbrev pub invariant-loop-row : goal.invariant-loop-row
invariant-loop-row g l = Entered g.R.KeyedRow.entry (g.R.KeyedRow.fault l.reader) (map fields_of l.rows) l.row-index l.seen.entries
