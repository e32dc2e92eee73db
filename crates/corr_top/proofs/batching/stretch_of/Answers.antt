use Rattle.std.proofs.Common.{All, List, arith, subst}
use lib.Seq.{take_all}
use Rattle.fin_frame.specs.declared.place.Place.{Place}
use Rattle.corr_top.specs.inner.Batching.{StandsBetween}
use Rattle.corr_top.proofs.OwnedBatches.{between_step, past_within}
use Rattle.corr_top.proofs.batching.stretch_of.Goals as goal

pub loop-place-preserved : goal.loop-place-preserved
loop-place-preserved c =
    let l = c.loop-place in
    let within = c.loop-place-test.true in
    let order = l.invariant.order in
    let least = c.min-begin.ensures in
    let most = c.max-past.ensures in
    record {
      each = between_step c.args.at.now l.place-index _ l.begin l.past c.min-begin.result c.max-past.result within least most l.invariant.each;
      within = λ size all. past_within c.args.at.now l.place-index _ l.past c.max-past.result size within most all (l.invariant.within size all);
      order = omega (arith, order, least, most);
    }

pub returns-clause-each : goal.returns-clause-each
returns-clause-each c =
    let l = c.loop-place in
    subst (λ (ps : List Place). All (StandsBetween l.begin l.past) ps) (take_all l.place-index c.args.at.now (omega (arith, c.loop-place-test.false))) l.invariant.each
