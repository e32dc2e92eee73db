use Rattle.std.proofs.Common.{arith}
use Rattle.advices.proofs.laws.Accepted.{notices-accepted, texts-accepted}
use Rattle.advices.proofs.entry.orders.Goals as goal

pub returns-in-Booked-clause-accepted : goal.returns-in-Booked-clause-accepted
returns-in-Booked-clause-accepted c =
    texts-accepted c.args.a.now c.args.e.now.pay c.args.place _
    (omega (arith, c.requires.place.1)) c.requires.shape c.messages.ensures.value c.messages.ensures.back

pub returns-in-Booked-clause-notices : goal.returns-in-Booked-clause-notices
returns-in-Booked-clause-notices c =
    notices-accepted c.args.a.now c.args.e.now.pay c.args.place _
    (omega (arith, c.requires.place.1)) c.requires.shape c.messages.ensures.value c.messages.ensures.back
