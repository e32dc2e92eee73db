use Rattle.std.proofs.Common.{◌<◌, map, refl, ap, arith}
use Rattle.std.proofs.lemmas.List.{get_or-replicate, length-map}
use Rattle.fin_blocks.proofs.Distinct.{marks-none, marks-more, marks-twice, marks-all, number-at}
use Rattle.fin_blocks.proofs.user.are_many_distinct.Goals as goal

pub loop-sub-init : goal.loop-sub-init
loop-sub-init c = marks-none _ (map (λ s. s.0) c.args.user.now) refl (λ n below. get_or-replicate 1000 n _ _ below)

pub returns-then-seen-number : goal.returns-then-seen-number
returns-then-seen-number c =
    let lt = c.loop-sub-test.true in
    let below : c.sub-item.result.0 < 1000 = omega (arith, c.requires c.loop-sub.sub-index c.sub-item.result lt, ap (λ s. s.0) c.sub-item.is) in
    marks-twice c.loop-sub.invariant c.sub-item.result.0 (number-at c.args.user.now c.loop-sub.sub-index c.sub-item.result c.sub-item.is lt)
    (omega (arith, length-map c.args.user.now (λ s. s.0))) below c.if-seen-number.true

pub loop-sub-preserved : goal.loop-sub-preserved
loop-sub-preserved c =
    let lt = c.loop-sub-test.true in
    let below : c.sub-item.result.0 < 1000 = omega (arith, c.requires c.loop-sub.sub-index c.sub-item.result lt, ap (λ s. s.0) c.sub-item.is) in
    marks-more c.loop-sub.invariant c.sub-item.result.0 (number-at c.args.user.now c.loop-sub.sub-index c.sub-item.result c.sub-item.is lt)
    (omega (arith, length-map c.args.user.now (λ s. s.0))) below c.if-seen-number.false

pub returns : goal.returns
returns c = marks-all c.loop-sub.invariant (omega (arith, length-map c.args.user.now (λ s. s.0)))
