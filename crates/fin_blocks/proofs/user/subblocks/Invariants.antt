use Rattle.std.proofs.Common.{length, ◌<◌}
use Rattle.std.specs.List.{All}
use Rattle.fin_blocks.specs.User.{subblock_of}
use Rattle.fin_blocks.proofs.Pieces.{IsReadTo}
use Rattle.fin_blocks.proofs.user.subblocks.Given as goal

-- the subblocks read so far
abbrev pub invariant-loop-rest : goal.invariant-loop-rest
invariant-loop-rest l = record { read : IsReadTo subblock_of l.b l.rest l.user; bound : All (λ s. s.0 < 1000) l.user }

abbrev pub decreases-loop-rest : goal.decreases-loop-rest
decreases-loop-rest l = length l.rest
