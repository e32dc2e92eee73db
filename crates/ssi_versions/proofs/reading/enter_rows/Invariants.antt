use Rattle.std.proofs.Common.{map}
use Rattle.csv.specs.Records.{fields_of}
use Rattle.ref_tables.proofs.laws.Entered.{Entered}
use Rattle.ssi_versions.specs.Rows.{instruction_fault, instruction_of}
use Rattle.ssi_versions.proofs.reading.enter_rows.Given as goal

abbrev pub invariant-loop-row : goal.invariant-loop-row
invariant-loop-row l = Entered instruction_of (instruction_fault l.t) (map fields_of l.rows) l.row-index l.ssi
