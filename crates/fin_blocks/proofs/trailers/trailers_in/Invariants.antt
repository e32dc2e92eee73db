use Rattle.std.proofs.Common.{length}
use Rattle.fin_blocks.specs.Forms.{trailer_of}
use Rattle.fin_blocks.proofs.Pieces.{IsReadTo}
use Rattle.fin_blocks.proofs.trailers.trailers_in.Given as goal

-- the trailers read so far
abbrev pub invariant-loop-rest : goal.invariant-loop-rest
invariant-loop-rest l = IsReadTo trailer_of l.b l.rest l.trailers

abbrev pub decreases-loop-rest : goal.decreases-loop-rest
decreases-loop-rest l = length l.rest
