use Rattle.std.proofs.Common.{◌+◌, length, refl, arith}
use Rattle.std.proofs.lemmas.Result.{on_ok_weaker}
use Rattle.jrn_file.proofs.Sent.{sent-then, sent-size, calls-fewer, calls-more}
use Rattle.jrn_file.proofs.filling.give_both.Goals as goal

pub returns-in_err-give-clause-no_more_calls : goal.returns-in_err-give-clause-no_more_calls
returns-in_err-give-clause-no_more_calls g c =
    let plan = g.D.Disk.plan in
    let old = c.args.sender.now in
    calls-fewer (old.filled + length c.args.first.now) (old.filled + (length c.args.first.now + length c.args.second.now)) (length old.buffer.items)
    (plan c.args.disk.now) (plan c.give.new.disk) (omega (arith, c.requires.by.few)) (omega arith) c.give.ensures.no_more_calls

pub give-requires-2-clause-room : goal.give-requires-2-clause-room
give-requires-2-clause-room g c = omega (arith, sent-size _ _ _ _ _ _ _ _ _ c.in_ok-give.ensures.sent c.requires.by, c.requires.room)

pub returns-clause-sent : goal.returns-clause-sent
returns-clause-sent g c =
    on_ok_weaker c.give-2.result
    (λ sent. sent-then _ _ _ _ c.args.first.now c.args.second.now _ _ _ _ _ _ _ _ _ refl c.give.ensures.honest c.requires.no_gap c.in_ok-give.ensures.sent sent)
    c.give-2.ensures.sent

pub returns-clause-no_more_calls : goal.returns-clause-no_more_calls
returns-clause-no_more_calls g c =
    calls-more _ _ _ _ _ _ _ _ _ c.in_ok-give.ensures.sent _ (c.args.sender.now.filled + (length c.args.first.now + length c.args.second.now)) _
    (omega (arith, c.requires.by.few)) c.requires.by (omega arith) c.give-2.ensures.no_more_calls
