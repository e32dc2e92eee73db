use Rattle.std.proofs.Common.{◌+◌, [], None, arith}
use Rattle.day_model.specs.declared.pay.Order.{Order}
use Rattle.day_model.specs.declared.pay.Order.TheVariants.{Transfer}
use Rattle.day_model.specs.declared.pay.Skip.TheVariants.{Keep}
use Rattle.advices.proofs.Growth.{back-more, messages-more}
use Rattle.advices.proofs.entry.messages.Goals as goal

pub loop-order-preserved : goal.loop-order-preserved
loop-order-preserved c =
    let l = c.loop-order in
    let default : Order = Transfer (record { head = []; branch = [] }) Keep None in (
      omega (arith, l.invariant.0),
      messages-more c.args.a.now c.args.pay.now c.args.place default c.args.pay.now.orders c.as_slice-order-items.result.now l.order-index
          (l.k + 1) c.in_ok-message.field-0 l.texts c.push.new.self
          c.as_slice-order-items.ensures c.loop-order-test.true
          (omega (arith, l.invariant.0)) l.invariant.1 c.in_ok-message.ensures.value c.in_ok-push.ensures.ok,
      back-more c.args.a.now c.args.pay.now c.args.place default c.args.pay.now.orders c.as_slice-order-items.result.now l.order-index (l.k + 1)
          c.as_slice-order-items.ensures c.loop-order-test.true (omega (arith, l.invariant.0)) l.invariant.2 c.in_ok-message.ensures.back,
    )
