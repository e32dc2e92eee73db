use Rattle.std.proofs.Common.{sym}
use Rattle.fin_contents.proofs.OfX.{only-of-x}
use Rattle.fin_contents.proofs.value.fill_value.Goals as goal

pub is_dated_line-requires : goal.is_dated_line-requires
is_dated_line-requires c = λ plain. only-of-x c.args.f.now.lines c.in-Some.line.now (sym c.in-Some.ensures) (c.is_plain.ensures plain)
