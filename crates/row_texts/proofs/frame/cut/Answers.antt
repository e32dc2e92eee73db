use Rattle.std.proofs.Common.{[], arith, sym, subst}
use Rattle.fin_frame.specs.Cutting.{WasFed}
use Rattle.row_texts.proofs.frame.cut.Goals as goal

pub loop-piece-init : goal.loop-piece-init
loop-piece-init c =
    (([], subst (λ ms. WasFed c.new-cutter.result [] ms) (sym c.new-messages.ensures) c.new-cutter.ensures.made, omega arith), omega arith)
