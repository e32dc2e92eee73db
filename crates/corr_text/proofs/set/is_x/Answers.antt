use Rattle.std.proofs.Common.{arith}
use Rattle.corr_text.proofs.Table.{in_x}
use Rattle.corr_text.proofs.set.is_x.Goals as goal

pub returns : goal.returns
returns c = in_x c.args.b (omega arith)
