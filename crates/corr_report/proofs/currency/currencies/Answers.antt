use Rattle.std.proofs.Common.{◌+◌, ◌-◌, drop, sym, ap, ◌∙◌, arith}
use Rattle.day_model.specs.Chart.{accounts_of}
use Rattle.corr_report.proofs.laws.Rests.{rest_at, rest_none}
use Rattle.corr_report.specs.Totals.{currencies_of}
use Rattle.corr_report.proofs.currency.currencies.Goals as goal

pub enter-requires : goal.enter-requires
enter-requires c = (c.get-account.ensures.sound.rows.apart.formed (c.loop-n.n - 1) c.get-account.result.now c.get-account.ensures.value).decimals

pub loop-n-preserved : goal.loop-n-preserved
loop-n-preserved c =
    let l = c.loop-n in
    let rest = rest_at (accounts_of c.args.a.now) l.n c.get-account.result.now l.auto.n c.get-account.ensures.value in
    let step = ap (currencies_of l.units.items) rest in
    let entered = ap (λ units. currencies_of units (drop (l.n + 1 - 1) (accounts_of c.args.a.now))) c.in_ok-enter.ensures.value in
    (entered ∙ (sym step ∙ l.invariant.0), c.enter.ensures.decimals l.invariant.1)

pub returns-clause-value : goal.returns-clause-value
returns-clause-value c =
    let l = c.loop-n in
    let none = rest_none (accounts_of c.args.a.now) l.n (omega (arith, c.loop-n-test.false, c.count-n-end.ensures.count)) in
    sym (ap (currencies_of l.units.items) none) ∙ l.invariant.0
