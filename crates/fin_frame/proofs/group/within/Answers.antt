use Rattle.std.proofs.Common.{◌≡◌, ◌<◌, Some, ap, sym, ◌∙◌, length, get_or, take, arith}
use Rattle.fin_frame.specs.File.{left_open}
use Rattle.fin_frame.proofs.Groups.{left_open-take, left_open-to, depth_after-le}
use Rattle.fin_frame.proofs.group.within.Goals as goal

pub returns-then-at-bytes-clause-open : goal.returns-then-at-bytes-clause-open
returns-then-at-bytes-clause-open c =
    left_open-to c.args.depth c.args.bytes.now c.loop-left.len c.next_brace-at.result c.loop-left.left c.loop-left.invariant.left (omega arith)
    c.next_brace-at.ensures.least c.next_brace-at.ensures.most c.next_brace-at.ensures.first

pub loop-left-preserved : goal.loop-left-preserved
loop-left-preserved c =
    let at = c.next_brace-at.result in
    let before : left_open c.args.depth (take at c.args.bytes.now) ≡ Some c.loop-left.left =
    left_open-to c.args.depth c.args.bytes.now c.loop-left.len at c.loop-left.left c.loop-left.invariant.left (omega arith)
    c.next_brace-at.ensures.least c.next_brace-at.ensures.most c.next_brace-at.ensures.first in
    let lt : at < length c.args.bytes.now = omega (arith, c.next_brace-at.ensures.most) in
    record {
      most = omega (arith, lt);
      bound = omega (arith, depth_after-le c.loop-left.left (get_or c.args.bytes.now at 0), c.after-left.ensures, c.next_brace-at.ensures.least);
      left = left_open-take c.args.depth c.args.bytes.now at c.loop-left.left lt before (omega arith) ∙ ap Some (sym c.after-left.ensures);
    }
