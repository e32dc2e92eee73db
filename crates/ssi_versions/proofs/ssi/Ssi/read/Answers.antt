use Rattle.ref_tables.specs.Refusals.{against}
use Rattle.ref_tables.proofs.laws.Entered.{first_fault-some}
use Rattle.ssi_versions.specs.Rows.{instruction_fault, instruction_of}
use Rattle.ssi_versions.proofs.Standing.{read-are-instructions}
use Rattle.ssi_versions.proofs.ssi.Ssi.read.Goals as goal

pub returns-in-Some-clause-bad : goal.returns-in-Some-clause-bad
returns-in-Some-clause-bad c =
    let read = rw c.in-Some.is at c.in_ok-rows.ensures in
    let same = first_fault-some 10000 (against instruction_of (instruction_fault c.args.t.now)) c.args.file.now _ read in
    rw (same, ← c.as_slice.ensures.value) c.enter_rows.ensures.bad

pub returns-in-Some-clause-instructions : goal.returns-in-Some-clause-instructions
returns-in-Some-clause-instructions c =
    let read = rw c.in-Some.is at c.in_ok-rows.ensures in
    read-are-instructions c.args.t.now c.args.file.now _ c.enter_rows.result (rw (← c.as_slice.ensures.value) at read) c.enter_rows.ensures.ok
