use Rattle.std.proofs.Common.{sym, ◌∙◌, arith}
use Rattle.corr_text.proofs.Braces.{group-more, none-yet}
use Rattle.corr_text.proofs.brace.after_groups.Goals as goal

pub loop-at-init : goal.loop-at-init
loop-at-init c = record { least = omega arith; most = c.requires.inside; none = none-yet c.args.text.now c.args.from }

pub loop-at-preserved : goal.loop-at-preserved
loop-at-preserved c = record {
  least = omega (arith, c.loop-at.invariant.least);
  most = omega (arith, c.loop-at-test.true, c.loop-at.invariant.most);
  none = group-more c.args.text.now c.args.from c.loop-at.at c.args.len c.loop-at.invariant.none (sym c.has_brace.ensures ∙ c.if-has_brace.false);
}
