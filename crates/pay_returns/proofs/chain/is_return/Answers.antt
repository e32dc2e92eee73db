use Rattle.std.proofs.Common.{sym, arith}
use Rattle.pay_returns.proofs.laws.Tagging.{parity-end, parity-step, took}
use Rattle.pay_returns.proofs.chain.is_return.Goals as goal

pub loop-next-preserved : goal.loop-next-preserved
loop-next-preserved c =
    let chart = c.args.a.now in
    let entries = c.args.h.now.entries in
    let t = took chart entries c.loop-next.at c.in-Some.next (sym c.in-Some.ensures) in
    record {
      from = t.since;
      there = omega (arith, t.before, c.loop-next.invariant.there);
      same = parity-step chart entries c.loop-next.at c.in-Some.next c.loop-next.odd _ c.loop-next.invariant.same (sym c.in-Some.ensures);
    }

pub returns : goal.returns
returns c =
    sym (parity-end c.args.a.now c.args.h.now.entries c.loop-next.at c.loop-next.odd _ c.loop-next.invariant.from c.loop-next.invariant.there c.loop-next.invariant.same (sym c.in_default.ensures))
