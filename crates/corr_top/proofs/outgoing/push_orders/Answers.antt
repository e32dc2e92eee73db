use Rattle.std.proofs.Common.{subst}
use Rattle.advices.specs.Messages.{messages_of}
use Rattle.advices.specs.Valid.{AreAccepted}
use Rattle.corr_top.proofs.Sending.{anyway}
use Rattle.corr_top.proofs.outgoing.push_orders.Goals as goal

pub returns-clause-accepted : goal.returns-clause-accepted
returns-clause-accepted c =
    let chart = c.args.a.now in
    let entry = c.args.entry.now in
    anyway c.push_parted.result (AreAccepted chart entry.pay (messages_of chart entry c.args.place)) (subst (AreAccepted chart entry.pay) c.in_ok-messages.ensures.value c.in_ok-messages.ensures.accepted)
