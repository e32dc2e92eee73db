use Rattle.std.proofs.Common.{vec_len}
use Rattle.corr_books.specs.inner.Taking.{AreTaken}
use Rattle.corr_books.proofs.taking.take_all.Given as goal

abbrev pub invariant-loop-pass : goal.invariant-loop-pass
invariant-loop-pass l = AreTaken l.initial.writer l.initial.passes.items l.writer l.passes.items

abbrev pub decreases-loop-pass : goal.decreases-loop-pass
decreases-loop-pass l = vec_len l.passes
