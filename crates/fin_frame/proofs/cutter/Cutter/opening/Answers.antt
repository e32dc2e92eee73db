use Rattle.std.proofs.Common.{refl, sym, ◌∙◌}
use Rattle.fin_frame.specs.inner.Machine.{state_of}
use Rattle.fin_frame.proofs.laws.Running.{opening-more}
use Rattle.fin_frame.proofs.cutter.Cutter.opening.Goals as goal

pub returns-else-matched-eq2-clause-took : goal.returns-else-matched-eq2-clause-took
returns-else-matched-eq2-clause-took c = (
  refl,
  c.pass.ensures.to c.args.out.now
      ∙ sym (opening-more c.args.matched (state_of c.args.self.now c.args.out.now) c.args.b c.if-b-matched.false c.if-matched-eq2.false),
)
