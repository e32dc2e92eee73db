use Rattle.std.proofs.Common.{◌≡◌, ◌-◌}
use Rattle.corr_report.specs.Generated.{generated_of, generated_number}
use Rattle.corr_report.proofs.generator.generated.Given as goal

-- the messages so far, and the number of the last
abbrev pub invariant-loop-i : goal.invariant-loop-i
invariant-loop-i l = record { written : l.out ≡ generated_of (l.i - 1) l.seed; number : l.x ≡ generated_number l.seed (l.i - 1) }
