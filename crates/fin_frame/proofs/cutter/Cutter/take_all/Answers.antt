use Rattle.std.proofs.Common.{◌≡◌, ◌+◌, ◌++◌, [], take, None, refl, arith, ap, sym, ◌∙◌}
use Rattle.std.proofs.lemmas.Result.{err_from_is_err_and}
use Rattle.fin_frame.specs.inner.Machine.{state_of}
use Rattle.fin_frame.proofs.Feeding.{took-err, took-fed, took-later, took-on}
use Rattle.fin_frame.proofs.cutter.Cutter.take_all.Goals as goal

pub returns-in_err-len-clause-took : goal.returns-in_err-len-clause-took
returns-in_err-len-clause-took c =
    let p = err_from_is_err_and c.from_residual.result c.from_residual.ensures.1 in
    let before = c.loop-rest.invariant in
    rw (p.1, p.2)
    (took-err c.in_err-len.field-0.0 (state_of c.args.self.now c.args.out.now) (state_of c.loop-rest.self c.loop-rest.out)
    (state_of c.step.new.self c.step.new.out) c.args.piece.now before.come.0 c.loop-rest.rest.now c.in_err-len.ensures.took before.come.1 before.come.2
    before.sound)

pub loop-rest-init : goal.loop-rest-init
loop-rest-init c = record { sound = c.requires.sound; size = refl; come = ([], refl, refl); later = refl }

pub loop-rest-preserved : goal.loop-rest-preserved
loop-rest-preserved c =
    let before = c.loop-rest.invariant in
    let old = state_of c.args.self.now c.args.out.now in
    let s = state_of c.loop-rest.self c.loop-rest.out in
    let now = state_of c.step.new.self c.step.new.out in
    let took = c.in_ok-len.ensures.took in
    let sound : c.step.new.self.failed ≡ None = c.step.ensures.failed ∙ before.sound in
    let counted : now.fed ≡ s.fed + c.in_ok-len.len = took-fed s now c.in_ok-len.len c.loop-rest.rest.now took.1 took.2 sound in
    let on = took-on old s now c.in_ok-len.len c.args.piece.now before.come.0 c.loop-rest.rest.now before.come.1 before.come.2 took.2 in
    let taken = before.come.0 ++ take c.in_ok-len.len c.loop-rest.rest.now in
    let parts = on.0 ∙ ap (λ x. taken ++ x) (sym c.split_at.ensures.back) in
    record {
      sound = sound;
      size = omega (arith, counted, c.split_at.ensures.back_len, before.size);
      come = (taken, parts, on.1);
      later = took-later old now c.args.piece.now taken _ parts on.1;
    }
