use Rattle.std.proofs.Common.{sym}
use Rattle.fin_contents.proofs.OfX.{only-of-x}
use Rattle.fin_contents.proofs.reference.reference_in.Goals as goal

pub is_x_run-requires : goal.is_x_run-requires
is_x_run-requires c = λ plain. only-of-x c.args.f.now.lines c.in-Some.line.now (sym c.in-Some.ensures) (c.is_plain.ensures plain)
