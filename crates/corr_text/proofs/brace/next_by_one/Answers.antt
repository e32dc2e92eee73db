use Rattle.std.proofs.Common.{sym, ◌∙◌, arith}
use Rattle.corr_text.proofs.Braces.{none-yet, one-more}
use Rattle.corr_text.proofs.brace.next_by_one.Goals as goal

pub loop-at-init : goal.loop-at-init
loop-at-init c = record { least = omega arith; most = c.requires; first = none-yet c.args.text.now c.args.from }

pub loop-at-preserved : goal.loop-at-preserved
loop-at-preserved c = record {
  least = omega (arith, c.loop-at.invariant.least);
  most = omega (arith, c.loop-at-test.true);
  first = one-more c.args.text.now c.args.from c.loop-at.at c.loop-at.invariant.first (sym c.is_brace.ensures ∙ c.if-is_brace.false);
}
