use Rattle.std.proofs.Common.{arith, ◌+◌}
use Rattle.corr_money.proofs.Digits.{one_more, after_within}
use Rattle.corr_money.proofs.reading.number_after.Goals as goal

pub overflow_mul-n : goal.overflow_mul-n
overflow_mul-n c =
    let l = c.loop-c in
    let next = one_more c.args.before c.args.b.now l.c-index c.requires.digits c.loop-c-test.true in
    omega (arith, next, after_within c.args.before c.args.b.now (l.c-index + 1), c.requires.fits, l.invariant)

pub overflow_add-n : goal.overflow_add-n
overflow_add-n c =
    let l = c.loop-c in
    let next = one_more c.args.before c.args.b.now l.c-index c.requires.digits c.loop-c-test.true in
    omega (arith, next, after_within c.args.before c.args.b.now (l.c-index + 1), c.requires.fits, l.invariant)

pub loop-c-preserved : goal.loop-c-preserved
loop-c-preserved c =
    let l = c.loop-c in
    let next = one_more c.args.before c.args.b.now l.c-index c.requires.digits c.loop-c-test.true in
    omega (arith, next, l.invariant)
