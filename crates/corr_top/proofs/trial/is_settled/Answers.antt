use Rattle.std.proofs.Common.{◌≡◌, List, Some, arith, subst}
use Rattle.day_model.specs.Totals.{Pair, pair_at}
use Rattle.corr_top.proofs.Trying.{settled_all, settled_next}
use Rattle.corr_top.proofs.trial.is_settled.Goals as goal

pub loop-n-preserved : goal.loop-n-preserved
loop-n-preserved c =
    let l = c.loop-n in
    let pair = c.totals_at-credits.result in
    let there : pair_at c.in_ok-pairs.pairs.items l.n ≡ Some pair = subst (λ (ps : List Pair). pair_at ps l.n ≡ Some pair) c.deref.ensures.value c.totals_at-credits.ensures in
    record {
      from_one = omega arith;
      settled = settled_next l.n c.args.a.now c.args.h.now.entries c.in_ok-pairs.pairs.items c.get.result.now pair l.invariant.from_one (omega (arith, c.loop-n-test.true, c.count-n-end.ensures.count)) c.in_ok-pairs.ensures.value
          there c.get.ensures.value (c.is_within.ensures c.if-not-is_within.false) l.invariant.settled;
    }

pub returns : goal.returns
returns c = λ _. settled_all c.loop-n.n c.args.a.now c.args.h.now.entries (omega (arith, c.loop-n-test.false, c.count-n-end.ensures.count)) c.loop-n.invariant.settled
