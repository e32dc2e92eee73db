use Rattle.desk_rows.proofs.laws.Reading as reading
use Rattle.desk_rows.proofs.law.entries_read_back.Goals as goal

pub returns-clause-rows : goal.returns-clause-rows
returns-clause-rows c = reading.rows_read_back

pub returns-clause-entries : goal.returns-clause-entries
returns-clause-entries c = reading.entries_read_back
