use Rattle.std.proofs.Common.{◌≡◌, take}
use Rattle.corr_report.specs.Lines.{numbered}
use Rattle.corr_top.specs.Check.{check_line}
use Rattle.corr_top.proofs.checking.verdicts.Given as goal

-- the lines so far
abbrev pub invariant-loop-at : goal.invariant-loop-at
invariant-loop-at l = l.out ≡ numbered (check_line l.home l.tables) 1 (take l.at l.messages)
