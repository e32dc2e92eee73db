use Rattle.std.proofs.Common.{arith}
use Rattle.fin_layout.proofs.Noted.{note-none, note-set}
use Rattle.fin_layout.proofs.found.note.Goals as goal

pub returns-then-at-ge-NOTED : goal.returns-then-at-ge-NOTED
returns-then-at-ge-NOTED c = note-none c.args.taken.now c.args.at (omega arith)

pub returns : goal.returns
returns c = note-set c.args.taken.now c.args.at (omega arith)
