use Rattle.corr_top.proofs.Reporting.{has_reply, names_its, reported_lines, reported_next}
use Rattle.corr_top.proofs.replies.reply_lines.Goals as goal

pub reply_in-reply-requires : goal.reply_in-reply-requires
reply_in-reply-requires c =
    let r = has_reply c.args.served.now c.requires.served.replies c.loop-at.at _ c.requires.served.are c.loop-at-test.true in
    (r.0, r.1)

pub put_reply_line-requires-clause-place : goal.put_reply_line-requires-clause-place
put_reply_line-requires-clause-place c =
    names_its c.args.h.now.entries c.args.served.now c.requires.served.replies c.loop-at.at _ c.reply_in-reply.result.now c.requires.served.are c.requires.served.names c.loop-at-test.true c.reply_in-reply.ensures

pub loop-at-preserved : goal.loop-at-preserved
loop-at-preserved c =
    let l = c.loop-at in
    reported_next c.args.a.now c.args.h.now.entries c.args.served.now c.args.first l.at l.lines c.put_reply_line.new.out _ c.reply_in-reply.result.now c.loop-at-test.true c.reply_in-reply.ensures c.in_ok-put_reply_line.ensures l.invariant

pub returns : goal.returns
returns c =
    let l = c.loop-at in
    reported_lines c.args.a.now c.args.h.now.entries c.args.served.now c.args.first l.at l.lines c.loop-at-test.false l.invariant
