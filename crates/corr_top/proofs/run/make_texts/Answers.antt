use Rattle.std.proofs.Common.{◌+◌, arith}
use Rattle.corr_top.proofs.SideBySide.{sent_whole}
use Rattle.corr_top.proofs.run.make_texts.Goals as goal

pub returns-clause-out : goal.returns-clause-out
returns-clause-out g c =
    let count = c.len.ensures.count in
    let all = sent_whole c.args.a.now c.args.h.now.entries (c.args.count + 1) c.len.result _ (omega (arith, count)) c.in_ok-outgoing_by.ensures in
    all.0

pub returns-clause-accepted : goal.returns-clause-accepted
returns-clause-accepted g c =
    let count = c.len.ensures.count in
    let all = sent_whole c.args.a.now c.args.h.now.entries (c.args.count + 1) c.len.result _ (omega (arith, count)) c.in_ok-outgoing_by.ensures in
    all.1
