use Rattle.std.proofs.Common.{arith}
use Rattle.corr_report.proofs.Fitting.{debits_small}
use Rattle.corr_report.proofs.outcome.put_debited.Goals as goal

pub legs_sum-requires : goal.legs_sum-requires
legs_sum-requires c = omega (arith, debits_small c.args.a.now c.args.pay.now c.as_slice-legs.result.now c.requires c.as_slice-legs.ensures)

pub put_in_currency-requires-clause-bound : goal.put_in_currency-requires-clause-bound
put_in_currency-requires-clause-bound c =
    omega (arith, debits_small c.args.a.now c.args.pay.now c.as_slice-legs.result.now c.requires c.as_slice-legs.ensures, c.legs_sum.ensures)
