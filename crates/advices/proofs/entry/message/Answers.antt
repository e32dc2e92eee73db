use Rattle.std.proofs.Common.{arith}
use Rattle.advices.proofs.laws.Orders.{order-writable}
use Rattle.advices.proofs.laws.Sendable.{user-fine}
use Rattle.advices.proofs.entry.message.Goals as goal

pub put_message-requires-clause-user : goal.put_message-requires-clause-user
put_message-requires-clause-user c = rw (c.as_slice.ensures, c.in_ok-user.ensures) (user-fine c.args.pay.now.uetr c.args.order.now c.requires.shape.uetr)

pub put_message-requires-clause-some : goal.put_message-requires-clause-some
put_message-requires-clause-some c =
    let w =
    order-writable c.args.a.now c.args.pay.now c.args.place c.args.k c.in_ok-fields.ensures.sound c.requires.fits c.requires.shape
    (omega (arith, c.requires.place)) (omega (arith, c.requires.k)) c.args.order.now c.requires.order in
    rw (c.as_slice-2.ensures, c.in_ok-fields.ensures.value) (w.some)

pub put_message-requires-clause-fit : goal.put_message-requires-clause-fit
put_message-requires-clause-fit c =
    let w =
    order-writable c.args.a.now c.args.pay.now c.args.place c.args.k c.in_ok-fields.ensures.sound c.requires.fits c.requires.shape
    (omega (arith, c.requires.place)) (omega (arith, c.requires.k)) c.args.order.now c.requires.order in
    rw (c.as_slice-2.ensures, c.in_ok-fields.ensures.value) (w.fit)
