use Rattle.std.proofs.Common.{◌∙◌}
use Rattle.corr_top.proofs.Gathering.{gathered_next-full, gathered_next-reply}
use Rattle.corr_top.proofs.answers.check_replies.Goals as goal
use Rattle.corr_top.proofs.answers.check_replies.Goals.{in-Reply, in-Full}

pub loop-one-preserved : goal.loop-one-preserved
loop-one-preserved c =
    let made = c.args.served.now in
    let l = c.loop-one in
    elim c.match-one.branch [
      | in-Reply w ↦ gathered_next-reply made l.one-index _ w.in-Reply.field-0 l.full c.match-one.full c.loop-one-test.true w.in-Reply.is w.full-is l.invariant
      | in-Full w ↦ gathered_next-full made l.one-index _ w.in-Full.entries w.in-Full.end w.in-Full.need l.full c.match-one.full c.loop-one-test.true w.in-Full.is (w.full-is ∙ w.first_full-full.ensures) l.invariant
    ]
