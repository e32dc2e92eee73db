use Rattle.std.proofs.Common.{◌∙◌}
use Rattle.reconcile.proofs.PairSteps.{next-alone, next-pair}
use Rattle.reconcile.proofs.pairing.pair_up.Goals as goal
use Rattle.reconcile.proofs.pairing.pair_up.Goals.{in-Some+in_ok-push-in-Some, in-None+in_ok-push-in-None}

pub loop-at-preserved : goal.loop-at-preserved
loop-at-preserved c =
    let rest = rw c.line_key.ensures at c.take.ensures.rest in
    let first = rw c.line_key.ensures at c.take.ensures.first in
    let entries = c.args.entries.now in
    let lines = c.args.lines.now in
    let line = c.index-lines-at.result in
    elim c.match-take.branch [
      | in-Some+in_ok-push-in-Some w ↦
          rw w.theirs-is (next-pair entries lines c.loop-at.at line c.index-lines-at.is c.loop-at-test.true c.loop-at.waiting c.take.new.self c.loop-at.pairs c.match-take.pairs c.loop-at.theirs
          c.take.result w.in-Some.place c.in_ok-number.number c.loop-at.invariant rest first w.in-Some.is c.in_ok-number.ensures (w.pairs-is ∙ w.in_ok-push-in-Some.ensures.ok))
      | in-None+in_ok-push-in-None w ↦
          rw w.pairs-is (next-alone entries lines c.loop-at.at line c.index-lines-at.is c.loop-at-test.true c.loop-at.waiting c.take.new.self c.loop-at.pairs c.loop-at.theirs c.match-take.theirs
          c.take.result c.in_ok-number.number c.loop-at.invariant rest first w.in-None.is c.in_ok-number.ensures (w.theirs-is ∙ w.in_ok-push-in-None.ensures.ok))
    ]
