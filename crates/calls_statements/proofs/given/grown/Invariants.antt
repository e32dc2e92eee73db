use Rattle.calls_statements.specs.inner.Grown.{IsGrown}
use Rattle.calls_statements.proofs.given.grown.Given as goal

abbrev pub invariant-loop-number : goal.invariant-loop-number
invariant-loop-number l = IsGrown l.fn.a l.h.entries l.index
