use Rattle.ref_tables.specs.Refusals.{against}
use Rattle.ref_tables.proofs.laws.Entered.{first_fault-some}
use Rattle.ref_tables.proofs.keyed.read_keyed.Goals as goal

pub returns-in-Some-clause-bad : goal.returns-in-Some-clause-bad
returns-in-Some-clause-bad g c =
    let read = rw c.in-Some.is at c.in_ok-rows.ensures in
    let same = first_fault-some c.args.most (against g.R.KeyedRow.entry (g.R.KeyedRow.fault c.args.reader.now)) c.args.file.now _ read in
    rw (same, ← c.as_slice.ensures.value) c.enter_rows.ensures.bad
