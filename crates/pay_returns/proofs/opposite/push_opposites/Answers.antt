use Rattle.std.proofs.Common.{◌<◌, length}
use Rattle.pay_returns.proofs.Sided.{bytes-more, pushed-more}
use Rattle.pay_returns.proofs.opposite.push_opposites.Goals as goal

pub loop-k-preserved : goal.loop-k-preserved
loop-k-preserved c =
    let side = c.args.side in
    let legs = c.args.legs.now in
    let k = c.loop-k.k in
    let leg = c.index-legs-k.result in
    let lt : k < length legs = c.loop-k-test.true in
    let pushed = c.in_ok-push_opposite.ensures in
    record {
      value = pushed-more c.args.place side legs k leg lt c.index-legs-k.is c.args.out.now c.loop-k.out c.push_opposite.new.out c.loop-k.invariant.value pushed.value;
      bytes = bytes-more c.args.place side legs k leg lt c.index-legs-k.is c.loop-k.invariant.bytes pushed.bytes;
    }
