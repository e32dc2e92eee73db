use Rattle.jrn_codec.proofs.Lengths.{some_uetr_long}
use Rattle.jrn_codec.proofs.length.uetr_len.Goals as goal

pub returns-in-Some-clause-len : goal.returns-in-Some-clause-len
returns-in-Some-clause-len c = some_uetr_long c.args.uetr.now c.in-Some.field-0 c.requires c.in-Some.is
