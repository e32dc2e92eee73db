use Rattle.std.proofs.Common.{◌≡◌, Some, refl, sym, ap, ◌∙◌}
use Rattle.fin_frame.specs.inner.Machine.{moves, stage_between, state_of}
use Rattle.fin_frame.proofs.cutter.Cutter.between.Goals as goal

pub returns-in-Some-clause-took : goal.returns-in-Some-clause-took
returns-in-Some-clause-took c given =
    let s = state_of c.args.self.now given in
    let is : Some c.in-Some.stage ≡ stage_between c.args.marked c.args.b = sym c.in-Some.is ∙ c.between.ensures.stage in
    (refl, c.pass.ensures.to given ∙ ap (λ o. moves o s) is)
