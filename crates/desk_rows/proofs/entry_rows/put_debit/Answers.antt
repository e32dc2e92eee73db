use Rattle.std.proofs.Common.{arith}
use Rattle.desk_rows.proofs.Legs.{debits_small}
use Rattle.desk_rows.proofs.entry_rows.put_debit.Goals as goal

pub legs_sum-debited-requires : goal.legs_sum-debited-requires
legs_sum-debited-requires c = omega (arith, debits_small c.args.a.now c.args.pay.now c.as_slice-legs.result.now c.requires.fits c.as_slice-legs.ensures)
