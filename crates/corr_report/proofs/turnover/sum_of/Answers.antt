use Rattle.std.proofs.Common.{ℕ, cond, ap, ◌∙◌, arith}
use Rattle.day_model.specs.Chart.{accounts_of, is_same_ccy}
use Rattle.corr_report.proofs.laws.Rests.{rest_at}
use Rattle.corr_report.specs.inner.Totals.{part_at, sum_over}
use Rattle.corr_report.proofs.turnover.sum_of.Goals as goal

pub overflow_add-sum : goal.overflow_add-sum
overflow_add-sum c =
    let l = c.loop-n in
    let account = c.get.result.now in
    let rest = rest_at (accounts_of c.args.a.now) l.n account l.auto.n c.get.ensures.value in
    let step = ap (sum_over (part_at c.args.side c.args.pairs.now) c.args.ccy l.n) rest in
    let here = c.beside-sum.ensures ∙ ap (λ (x : ℕ). cond (is_same_ccy account.ccy c.args.ccy) x 0) c.part_of_account.ensures in
    omega (arith, step, l.invariant, here, c.requires.fits)

pub loop-n-preserved : goal.loop-n-preserved
loop-n-preserved c =
    let l = c.loop-n in
    let account = c.get.result.now in
    let rest = rest_at (accounts_of c.args.a.now) l.n account l.auto.n c.get.ensures.value in
    let step = ap (sum_over (part_at c.args.side c.args.pairs.now) c.args.ccy l.n) rest in
    let here = c.beside-sum.ensures ∙ ap (λ (x : ℕ). cond (is_same_ccy account.ccy c.args.ccy) x 0) c.part_of_account.ensures in
    omega (arith, step, l.invariant, here)
