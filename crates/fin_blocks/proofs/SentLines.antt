-- Lines without braces, each written with its end, are the text of a message to send.
use Rattle.std.proofs.Common.{◌≡◌, ℕ, ◌&&◌, Bool, true, List, [], ◌∷◌, refl, ap, ◌∙◌, append_assoc}
use Rattle.std.specs.List.{flat_map, list_all}
use Rattle.std.proofs.lemmas.Bool.{and_parts}
use Rattle.corr_text.specs.Lines.{lines_of}
use Rattle.corr_text.proofs.laws.Written.{is_inner, line-again}
use Rattle.fin_blocks.specs.Forms.{is_plain}
use Rattle.fin_blocks.specs.Text.{crlf, ended, text_in}
use Rattle.fin_blocks.specs.Sending.{IsText}
use Rattle.fin_blocks.proofs.SentParts.{plain-both}

-- a line without braces and without a line feed
abbrev pub is_line : List ℕ → Bool
is_line line = is_plain line && list_all is_inner line

ended-plain : (lines : List (List ℕ)) → list_all is_line lines ≡ true → is_plain (flat_map ended lines) ≡ true
ended-plain [] h = refl
ended-plain (line ∷ lines) h =
    let p = and_parts (is_line line) (list_all is_line lines) h in
    let q = and_parts (is_plain line) (list_all is_inner line) p.0 in
    plain-both (ended line) (flat_map ended lines) (plain-both line crlf q.0 refl) (ended-plain lines p.1)

ended-lines : (lines : List (List ℕ)) → list_all is_line lines ≡ true → lines_of (flat_map ended lines) ≡ lines
ended-lines [] h = refl
ended-lines (line ∷ lines) h =
    let p = and_parts (is_line line) (list_all is_line lines) h in
    let q = and_parts (is_plain line) (list_all is_inner line) p.0 in
    ap lines_of (append_assoc line crlf (flat_map ended lines)) ∙ line-again line (flat_map ended lines) q.1
    ∙ ap (λ ls. line ∷ ls) (ended-lines lines p.1)

pub lines-are-text : (lines : List (List ℕ)) → list_all is_line lines ≡ true → IsText (flat_map ended lines)
unfolding text_in
lines-are-text lines h = record { plain = ended-plain lines h; lines = ap (flat_map ended) (ended-lines lines h) }
