use Rattle.std.proofs.Common.{length}
use Rattle.jrn_codec.proofs.entry_writing.+put_legs.Given as goal

abbrev pub decreases-put_legs : goal.decreases-put_legs
decreases-put_legs l = length l.legs.now
