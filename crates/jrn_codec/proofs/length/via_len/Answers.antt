use Rattle.jrn_codec.proofs.Lengths.{some_via_long}
use Rattle.jrn_codec.proofs.length.via_len.Goals as goal

pub returns-in-Some-clause-len : goal.returns-in-Some-clause-len
returns-in-Some-clause-len c = some_via_long c.args.via.now c.in-Some.field-0 c.requires c.in-Some.is
