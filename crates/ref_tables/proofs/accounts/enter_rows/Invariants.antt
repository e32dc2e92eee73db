use Rattle.std.proofs.Common.{map}
use Rattle.csv.specs.Records.{fields_of}
use Rattle.ref_tables.proofs.Entering.{Entering}
use Rattle.ref_tables.proofs.accounts.enter_rows.Given as goal

abbrev pub invariant-loop-row : goal.invariant-loop-row
invariant-loop-row l = Entering l.home.head l.t (map fields_of l.rows) l.row-index l.accounts.items
