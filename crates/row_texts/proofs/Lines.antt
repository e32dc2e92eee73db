-- Copying lines one by one.
use Rattle.std.proofs.Common.{◌≡◌, ℕ, List, [], ◌∷◌, ◌++◌, length, refl, sym, ap, ◌∙◌, append_assoc, arith}
use Rattle.std.specs.List.{flat_map}
use Rattle.std.proofs.lemmas.List.{append-nil}
use Rattle.corr_text.specs.Lines.{lines_of}
use Rattle.fin_blocks.specs.Text.{crlf, ended, text_in}

regroup : (a b c d : List ℕ) → ((a ++ b) ++ c) ++ d ≡ a ++ ((b ++ c) ++ d)
regroup a b c d = simp append_assoc

-- the lines copied and those still to copy
pub record IsCopied (copied rest whole : List ℕ) : Type 0 where
  pub same : copied ++ text_in rest ≡ text_in whole

pub copy-more : {copied rest whole : List ℕ} → IsCopied copied rest whole → (line left unended new : List ℕ) → lines_of rest ≡ line ∷ lines_of left → unended ≡ copied ++ line → new ≡ unended ++ crlf
    → IsCopied new left whole
unfolding text_in
copy-more {copied} {rest} {whole} h line left unended new cut push end = record {
  same = ap (λ t. t ++ text_in left) (end ∙ ap (λ t. t ++ crlf) push) ∙ regroup copied line crlf (text_in left)
      ∙ ap (λ lines. copied ++ flat_map ended lines) (sym cut) ∙ h.same;
}

none-left : (rest : List ℕ) → length rest ≡ 0 → text_in rest ≡ []
unfolding text_in
none-left [] e = refl
none-left (b ∷ bs) e = absurd (omega (arith, e))

pub copy-all : {copied rest whole : List ℕ} → IsCopied copied rest whole → length rest ≡ 0 → copied ≡ text_in whole
copy-all {copied} {rest} {whole} h e = sym (append-nil copied) ∙ ap (λ t. copied ++ t) (sym (none-left rest e)) ∙ h.same
