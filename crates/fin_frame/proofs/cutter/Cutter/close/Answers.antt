use Rattle.std.proofs.Common.{◌≡◌, ◌==◌, true, arith, refl, sym, ap, ◌∙◌}
use Rattle.std.proofs.lemmas.Bool.Decides.{nat_tests}
use Rattle.fin_frame.specs.File.{is_gap_byte}
use Rattle.fin_frame.specs.inner.Machine.{to, state_of}
use Rattle.fin_frame.specs.declared.stage.Stage.TheVariants.{Between}
use Rattle.fin_frame.proofs.laws.Running.{close-gap}
use Rattle.fin_frame.proofs.cutter.Cutter.close.Goals as goal

pub returns-in_ok-give-in-10-clause-took : goal.returns-in_ok-give-in-10-clause-took
returns-in_ok-give-in-10-clause-took c =
    let gap : is_gap_byte c.args.b ≡ true = grind (arith, nat_tests, c.in-10.is) in (
      refl,
      c.pass.ensures.to c.give.new.out ∙ ap (to (Between (c.args.b == 36))) c.in_ok-give-in-10.ensures.ok
          ∙ sym (close-gap (state_of c.args.self.now c.args.out.now) c.args.b gap),
    )
