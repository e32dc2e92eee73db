use Rattle.std.proofs.Common.{◌≡◌, length}
use Rattle.corr_text.specs.Lines.{lines_of}
use Rattle.pay_returns.specs.inner.Walking.{first_20}
use Rattle.pay_returns.proofs.first.first_20.Given as goal

-- no line so far begins field 20
abbrev pub invariant-loop-rest : goal.invariant-loop-rest
invariant-loop-rest l = first_20 (lines_of l.text) ≡ first_20 (lines_of l.rest)

abbrev pub decreases-loop-rest : goal.decreases-loop-rest
decreases-loop-rest l = length l.rest
