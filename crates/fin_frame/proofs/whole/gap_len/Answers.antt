use Rattle.std.proofs.Common.{◌≡◌, take, get_or, Some, arith, sym, ap, ◌∙◌, subst}
use Rattle.std.proofs.lemmas.List.{take_more}
use Rattle.fin_frame.specs.inner.Machine.{stage_between}
use Rattle.fin_frame.specs.declared.stage.Stage.TheVariants.{Between}
use Rattle.fin_frame.proofs.WholeFile.{EndsGap, gap-none, gap-on}
use Rattle.fin_frame.proofs.whole.gap_len.Goals as goal

pub loop-len-init : goal.loop-len-init
loop-len-init c = record { most = omega arith; come = gap-none c.args.marked }

pub loop-len-preserved : goal.loop-len-preserved
loop-len-preserved c =
    let bytes = c.args.bytes.now in
    let len = c.loop-len.len in
    let now = c.in-Some-Between.marked in
    let stage : stage_between c.loop-len.ended (get_or bytes len 0) ≡ Some (Between now) =
    sym c.between.ensures.stage ∙ c.in-Some-Between.is ∙ ap (λ x. Some x) c.in-Some-Between.field-0-is in
    record {
      most = omega (arith, c.loop-len-test.true);
      come =
          subst (λ x. EndsGap c.args.marked now x) (sym (take_more bytes len 0 c.loop-len-test.true))
          (gap-on c.args.marked c.loop-len.ended now (get_or bytes len 0) (take len bytes) c.loop-len.invariant.come stage);
    }
