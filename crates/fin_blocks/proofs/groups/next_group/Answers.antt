use Rattle.std.proofs.Common.{◌+◌, ◌∙◌, sym, arith}
use Rattle.std.proofs.lemmas.List.{take_rest}
use Rattle.fin_blocks.proofs.Cutting.{starts-open, open-more, open-to, is-cut, is-open}
use Rattle.fin_blocks.proofs.groups.next_group.Goals as goal

pub loop-at-init : goal.loop-at-init
loop-at-init c = record { most = omega arith; still = starts-open c.args.bytes.now }

pub returns-then-depth-eq0-clause-cut : goal.returns-then-depth-eq0-clause-cut
returns-then-depth-eq0-clause-cut c =
    rw (take_rest c.args.bytes.now (c.loop-at.at + 1)) (is-cut c.loop-at.invariant.still (sym c.depth_after-depth.ensures ∙ c.if-depth-eq0.true) c.loop-at-test.true)

pub loop-at-preserved : goal.loop-at-preserved
loop-at-preserved c =
    let next = c.next_brace-at.ensures in
    let more = open-more c.loop-at.invariant.still c.depth_after-depth.result c.depth_after-depth.ensures c.if-depth-eq0.false c.loop-at-test.true in
    record {
      most = next.most;
      still = open-to c.next_brace-at.result more (omega (arith, c.if-depth-eq0.false)) next.least next.most next.first;
    }

pub returns-clause-cut : goal.returns-clause-cut
returns-clause-cut c = is-open c.args.bytes.now c.loop-at.at c.loop-at.depth c.loop-at.invariant.still (omega (arith, c.loop-at.invariant.most))
