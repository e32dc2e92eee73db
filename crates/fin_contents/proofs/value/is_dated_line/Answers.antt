use Rattle.fin_contents.proofs.OfX.{dated-by-amount, end-of-x}
use Rattle.fin_contents.proofs.value.is_dated_line.Goals as goal

pub is_ccy_amount-requires : goal.is_ccy_amount-requires
is_ccy_amount-requires c = λ plain. end-of-x 6 c.args.line.now (c.requires plain)

pub returns-then-is_each_of-clause-value : goal.returns-then-is_each_of-clause-value
returns-then-is_each_of-clause-value c =
    dated-by-amount c.args.line.now c.is_each_of.result c.is_ccy_amount.result c.if-line-lt10.false c.if-is_each_of.true c.is_each_of.ensures c.is_ccy_amount.ensures.value
