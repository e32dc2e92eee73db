use Rattle.std.proofs.Common.{sym}
use Rattle.fin_contents.proofs.OfX.{only-of-x}
use Rattle.fin_contents.proofs.amount.read_ccy_amount.Goals as goal

pub is_ccy_amount-requires : goal.is_ccy_amount-requires
is_ccy_amount-requires c = λ plain. only-of-x c.args.f.now.lines c.in-Some.line.now (sym c.in-Some.ensures) (c.is_plain.ensures plain)
