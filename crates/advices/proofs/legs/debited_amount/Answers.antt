use Rattle.std.proofs.Common.{arith}
use Rattle.advices.proofs.Fitting.{debits-small, many-legs}
use Rattle.advices.proofs.legs.debited_amount.Goals as goal

pub leg_account-account-requires-clause-leg : goal.leg_account-account-requires-clause-leg
leg_account-account-requires-clause-leg c = (omega arith, omega (arith, many-legs c.args.a.now c.args.pay.now c.requires))

pub legs_sum-requires : goal.legs_sum-requires
legs_sum-requires c = omega (arith, debits-small c.args.a.now c.args.pay.now c.as_slice.result.now c.requires c.as_slice.ensures)

pub returns-clause-spelled : goal.returns-clause-spelled
returns-clause-spelled c =
    let formed = c.leg_account-account.ensures.formed in
    let small = debits-small c.args.a.now c.args.pay.now c.as_slice.result.now c.requires c.as_slice.ensures in
    record { amount = record { small = omega (arith, small, c.legs_sum.ensures); few = formed.decimals }; letters = formed.ccy }
