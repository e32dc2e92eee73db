use Rattle.std.proofs.Common.{length}
use Rattle.jrn_codec.proofs.length.+legs_len.Given as goal

abbrev pub decreases-legs_len : goal.decreases-legs_len
decreases-legs_len l = length l.legs.now
