use Rattle.std.proofs.Common.{◌≡◌, get_or, sym, ap, ◌∙◌}
use Rattle.fin_frame.specs.inner.Machine.{next_at, next, state_of}
use Rattle.fin_frame.specs.declared.stage.Stage.TheVariants.{Between}
use Rattle.fin_frame.proofs.laws.Running.{took-one, next-sound}
use Rattle.fin_frame.proofs.cutter.Cutter.step.Goals as goal

pub returns-in-Between-clause-took : goal.returns-in-Between-clause-took
returns-in-Between-clause-took c =
    let s = state_of c.args.self.now c.args.out.now in
    let b = get_or c.args.rest.now 0 0 in
    let there : next s b ≡ next_at (Between c.in-Between.marked) s b = next-sound s b c.requires.sound ∙ ap (λ stage. next_at stage s b) c.in-Between.is in
    took-one c.between.result s (next_at (Between c.in-Between.marked) s b) c.args.rest.now (state_of c.between.new.self c.args.out.now) c.requires.some
    (sym there) (c.between.ensures.took c.args.out.now)
