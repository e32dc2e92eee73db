use Rattle.std.proofs.Common.{take}
use Rattle.statement.specs.Index.{IsIndexOf}
use Rattle.statement.proofs.index.HistoryIndex.new.Given as goal

abbrev pub invariant-loop-at : goal.invariant-loop-at
invariant-loop-at l = IsIndexOf l.index (record { chart = l.fn.a; entries = take l.at l.h.entries })
