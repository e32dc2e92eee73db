use Rattle.std.proofs.Common.{◌∷◌, [], refl, ◌∙◌}
use Rattle.corr_text.proofs.laws.Filling.{filled}
use Rattle.ssi_versions.proofs.index.key.Goals as goal

pub returns : goal.returns
returns c =
    filled c.copy_from_slice.new.self c.copy_from_slice-2.new.self (0 ∷ 0 ∷ 0 ∷ 0 ∷ 0 ∷ 0 ∷ 0 ∷ 0 ∷ 0 ∷ 0 ∷ 0 ∷ []) 3 11 c.copy_from_slice.ensures.len refl
    ∙ rw (c.copy_from_slice.ensures.after, c.copy_from_slice-2.ensures.after, c.bank_key.ensures) refl
