use Rattle.desk_rows.proofs.laws.Plain as plain
use Rattle.desk_rows.proofs.law.rows_are_plain.Goals as goal

pub returns : goal.returns
returns c = plain.rows_are_plain
