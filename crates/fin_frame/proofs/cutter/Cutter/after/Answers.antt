use Rattle.std.proofs.Common.{◌≡◌, get_or, arith, sym, subst, ap, ◌∙◌}
use Rattle.fin_frame.specs.inner.Machine.{next_at, next, next_after, HasTaken, resumes, state_of}
use Rattle.fin_frame.proofs.laws.Running.{run-first, next-sound, after-more, took-resumed}
use Rattle.fin_frame.proofs.cutter.Cutter.after.Goals as goal

pub returns-else-matched-eq2-clause-took : goal.returns-else-matched-eq2-clause-took
returns-else-matched-eq2-clause-took c =
    let s = state_of c.args.self.now c.args.out.now in
    let b = get_or c.args.rest.now 0 0 in
    let there : next s b ≡ next_after c.args.from c.args.matched s b =
    next-sound s b c.requires.sound ∙ ap (λ stage. next_at stage s b) c.requires.stage in (
      omega arith,
      omega arith,
      c.pass.ensures.to c.args.out.now
          ∙ sym
          (run-first s c.args.rest.now c.requires.some ∙ there ∙ after-more c.args.from c.args.matched s b c.if-b-matched.true c.if-matched-eq2.false),
    )

pub returns-then-matched-gt0-clause-took : goal.returns-then-matched-gt0-clause-took
returns-then-matched-gt0-clause-took c =
    let s = state_of c.args.self.now c.args.out.now in
    let now = state_of c.inside.new.self c.args.out.now in
    let took : HasTaken c.inside.result (resumes c.args.from c.args.matched s) c.args.rest.now now =
    subst (λ t. HasTaken c.inside.result t c.args.rest.now now) (c.in_ok-resume.ensures.ok c.args.out.now) (c.inside.ensures.took c.args.out.now) in
    took-resumed c.args.from c.args.matched c.inside.result s c.args.rest.now now c.requires.sound c.requires.stage
    (omega arith) c.requires.some c.if-b-matched.false took
