use Rattle.std.proofs.Common.{arith}
use Rattle.jrn_file.proofs.laws.Sizes.{length-journal_bytes}
use Rattle.jrn_file.proofs.making_with.size_of_journal.Goals as goal

pub loop-record-init : goal.loop-record-init
loop-record-init c = omega (arith, length-journal_bytes c.args.head.now c.args.records.now)
