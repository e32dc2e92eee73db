use Rattle.day_model.specs.declared.pay.Side.TheVariants.{Debit, Credit}
use Rattle.day_model.proofs.Amounts.{sum_fits}
use Rattle.day_model.proofs.fit.are_even.Goals as goal

pub legs_sum-requires : goal.legs_sum-requires
legs_sum-requires c = sum_fits Debit c.args.legs.now c.requires.few c.requires.small

pub legs_sum-requires-2 : goal.legs_sum-requires-2
legs_sum-requires-2 c = sum_fits Credit c.args.legs.now c.requires.few c.requires.small
