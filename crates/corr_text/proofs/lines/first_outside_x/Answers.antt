use Rattle.std.proofs.Common.{◌+◌, ◌≤◌, length, arith}
use Rattle.corr_text.proofs.Plain.{found-here, none-here, plain-past}
use Rattle.corr_text.proofs.lines.first_outside_x.Goals as goal

pub loop-at-init : goal.loop-at-init
loop-at-init c = record { most = omega arith; plain = λ k l. absurd (omega (arith, l)) }

pub loop-at-preserved : goal.loop-at-preserved
loop-at-preserved c =
    let at = c.loop-at.at in
    let fits : at + 8 ≤ length c.args.text.now = omega (arith, c.loop-at-test.true, c.loop-at.invariant.most) in
    record {
      most = fits;
      plain = plain-past c.args.text.now at (at + 8) (omega arith) fits c.loop-at.invariant.plain c.in_default.ensures;
    }

pub returns-in-Some : goal.returns-in-Some
returns-in-Some c = found-here c.args.text.now c.loop-at.at (c.loop-at.at + 8) c.in-Some.k c.loop-at.invariant.plain c.in-Some.ensures

pub returns-in-Some-outside_x : goal.returns-in-Some-outside_x
returns-in-Some-outside_x c = found-here c.args.text.now c.loop-at.at (length c.args.text.now) c.in-Some-outside_x.k c.loop-at.invariant.plain c.in-Some-outside_x.ensures

pub returns-in-None : goal.returns-in-None
returns-in-None c = none-here c.args.text.now c.loop-at.at c.loop-at.invariant.most c.loop-at.invariant.plain c.in-None.ensures
