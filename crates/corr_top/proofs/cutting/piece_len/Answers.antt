use Rattle.std.proofs.Common.{arith}
use Rattle.corr_top.proofs.cutting.piece_len.Goals as goal

pub returns-clause-quiet : goal.returns-clause-quiet
returns-clause-quiet c = λ long past k l. c.few_len-messages.ensures.quiet past k (omega (arith, long, l))
