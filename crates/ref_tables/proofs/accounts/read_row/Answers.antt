use Rattle.ref_tables.proofs.accounts.read_row.Goals as goal

pub returns-clause-value : goal.returns-clause-value
returns-clause-value c = rw c.seven_cells-cells.ensures at c.read_cells.ensures.value
