use Rattle.std.proofs.Common.{◌∙◌, ◌∷◌, ◌-◌, ◌^◌, arith, sym}
use Rattle.standby.proofs.Numbered.{all-there, none-yet, one-more, short-at, to-the-end}
use Rattle.standby.proofs.shipping.packets.Goals as goal

pub loop-number-init : goal.loop-number-init
loop-number-init c = c.new-packets.ensures.items ∙ sym (none-yet (c.args.head.now ∷ c.args.recs.now) c.args.from)

pub packet-requires : goal.packet-requires
packet-requires c = short-at (c.args.head.now ∷ c.args.recs.now) (c.loop-number.number - 1) (2 ^ 30) c.in-Some.r.now c.requires.short c.in-Some.ensures.there

pub loop-number-preserved : goal.loop-number-preserved
loop-number-preserved c =
    let more = one-more (c.args.head.now ∷ c.args.recs.now) c.args.from c.loop-number.number c.in-Some.r.now c.requires.from c.loop-number.auto.number c.in-Some.ensures.there in
    cc (more, c.loop-number.invariant, c.in_ok-packet-in-Some.ensures, c.in_ok-push-in-Some.ensures.items)

pub returns-in-None : goal.returns-in-None
returns-in-None c =
    c.loop-number.invariant
    ∙ all-there (c.args.head.now ∷ c.args.recs.now) c.args.from c.loop-number.number c.args.until c.requires.from c.loop-number.auto.number (omega (arith, c.loop-number-test.true)) c.in-None.ensures.none

pub returns : goal.returns
returns c =
    c.loop-number.invariant
    ∙ to-the-end (c.args.head.now ∷ c.args.recs.now) c.args.from c.loop-number.number c.args.until (omega (arith, c.loop-number-test.false, c.loop-number.auto.number-end, c.requires.order))
