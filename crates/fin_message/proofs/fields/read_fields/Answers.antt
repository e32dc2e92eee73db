use Rattle.std.proofs.Common.{ap, arith, length}
use Rattle.corr_text.specs.Lines.{lines_of}
use Rattle.fin_fields.proofs.laws.Bounds.{fields-few}
use Rattle.fin_message.proofs.fields.read_fields.Goals as goal

pub returns-in-Ok-clause-few : goal.returns-in-Ok-clause-few
returns-in-Ok-clause-few c = omega (arith, ap length c.in-Ok.ensures.fields.1, fields-few (lines_of c.args.text.now), c.requires)
