use Rattle.std.proofs.Common.{◌∷◌, [], refl, arith}
use Rattle.corr_text.proofs.laws.Filling.{filled}
use Rattle.corr_ids.proofs.bic.with_branch.Goals as goal

pub returns : goal.returns
returns c =
    rw (c.copy_from_slice.ensures.after, c.copy_from_slice-2.ensures.after) (filled c.args.b.now.head c.args.b.now.branch (0 ∷ 0 ∷ 0 ∷ []) 8 3 (omega arith) refl)
