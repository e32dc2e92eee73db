use Rattle.std.proofs.Common.{◌≡◌, ◌∙◌, List, ℕ, subst}
use Rattle.std.specs.Prelude.{IfOk}
use Rattle.out_file.specs.Mended.{mended_of}
use Rattle.corr_top.specs.Mend.{mended_out}
use Rattle.corr_top.proofs.mending.mended_by.Goals as goal

pub returns : goal.returns
unfolding mended_out
returns c = subst (λ (sent : List ℕ). IfOk c.mended.result (λ text. text ≡ mended_of c.args.file.now sent)) (c.bytes.ensures ∙ c.in_ok-sent.ensures.text) c.mended.ensures
