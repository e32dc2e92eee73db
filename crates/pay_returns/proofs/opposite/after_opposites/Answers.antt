use Rattle.std.proofs.Common.{◌<◌, Some, None, length, sym, ◌∙◌}
use Rattle.pay_returns.proofs.Sided.{after-more}
use Rattle.pay_returns.proofs.opposite.after_opposites.Goals as goal

pub loop-k-preserved : goal.loop-k-preserved
loop-k-preserved c =
    let lt : c.loop-k.k < length c.args.of.now = c.loop-k-test.true in
    c.loop-k.invariant ∙ after-more c.args.place c.args.side c.args.of.now c.loop-k.k c.index-of-k.result lt c.index-of-k.is c.loop-k.rest.now (Some c.in-Some.others.now) (sym c.in-Some.ensures)

pub returns-in-None : goal.returns-in-None
returns-in-None c =
    let lt : c.loop-k.k < length c.args.of.now = c.loop-k-test.true in
    sym (c.loop-k.invariant ∙ after-more c.args.place c.args.side c.args.of.now c.loop-k.k c.index-of-k.result lt c.index-of-k.is c.loop-k.rest.now None (sym c.in-None.ensures))
