use Rattle.std.proofs.Common.{arith}
use Rattle.std.proofs.lemmas.Grind.{common_steps}
use Rattle.fin_blocks.proofs.Unchanged.{all-alone, alone-further, first-alone, none-alone, unchanged}
use Rattle.fin_blocks.proofs.text.has_crlf_alone.Goals as goal

pub returns-then-is_empty : goal.returns-then-is_empty
returns-then-is_empty c = λ _ last. unchanged c.args.b.now (none-alone c.args.b.now (grind (arith, common_steps))) last

pub loop-at-init : goal.loop-at-init
loop-at-init c = λ calm. first-alone c.args.b.now (grind (arith, common_steps)) calm

pub loop-at-preserved : goal.loop-at-preserved
loop-at-preserved c = λ calm. alone-further c.args.b.now c.loop-at.at c.loop-at.stray (omega arith) (omega (arith, c.loop-at-test.true)) calm c.loop-at.invariant

pub returns : goal.returns
returns c = λ alone last. unchanged c.args.b.now (all-alone c.args.b.now c.loop-at.at c.loop-at.stray (omega (arith, c.loop-at-test.false)) alone c.loop-at.invariant) last
