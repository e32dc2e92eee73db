-- Fields with their notes, one field more.
use Rattle.std.proofs.Common.{◌≡◌, ℕ, ◌+◌, ◌<◌, true, false, List, [], ◌∷◌, ◌++◌, length, get_or, drop, None, refl, sym, ap, ◌∙◌, append_assoc}
use Rattle.std.proofs.lemmas.List.{drop-drop, drop_more}
use Rattle.fin_fields.specs.declared.field.Field.{Field}
use Rattle.fin_contents.specs.Writing.{lines_fields}
use Rattle.mt940_out.specs.Order.{is_line}
use Rattle.mt940_out.specs.Writing.{first_note, other_notes, with_notes}
use Rattle.mt940_out.proofs.Noted.{with-line, with-other}

others : (ns : List (List (List ℕ))) → other_notes ns ≡ drop 1 ns
others [] = refl
others (n ∷ ns) = refl

module _ (fs : List Field) (i : ℕ) (f : Field) (is : f ≡ get_or fs i f) (lt : i < length fs) (notes : List (List (List ℕ))) (k : ℕ) (all : List Field)
    (e : with_notes notes fs ≡ all ++ with_notes (drop k notes) (drop i fs)) where
  next : drop i fs ≡ f ∷ drop (i + 1) fs
  next = drop_more fs i f lt ∙ ap (λ (g : Field). g ∷ drop (i + 1) fs) (sym is)

  other-notes : other_notes (drop k notes) ≡ drop (k + 1) notes
  other-notes = others (drop k notes) ∙ drop-drop 1 k notes

  -- a 61 and its note
  pub with-line-more : (pushed new : List Field) → is_line f ≡ true → pushed ≡ all ++ f ∷ [] → new ≡ pushed ++ lines_fields 86 None (first_note (drop k notes))
      → with_notes notes fs ≡ new ++ with_notes (drop (k + 1) notes) (drop (i + 1) fs)
  with-line-more pushed new line one two =
      let rest : List Field = drop (i + 1) fs in
      let note : List Field = lines_fields 86 None (first_note (drop k notes)) in
      let later : List Field = with_notes (drop (k + 1) notes) rest in
      e ∙ ap (λ (gs : List Field). all ++ with_notes (drop k notes) gs) next
      ∙ ap (λ (gs : List Field). all ++ gs) (with-line f rest (drop k notes) line)
      ∙ ap (λ (ns : List (List (List ℕ))). all ++ f ∷ (note ++ with_notes ns rest)) other-notes
      ∙ sym (append_assoc all (f ∷ []) (note ++ later))
      ∙ ap (λ (gs : List Field). gs ++ (note ++ later)) (sym one)
      ∙ sym (append_assoc pushed note later)
      ∙ ap (λ (gs : List Field). gs ++ later) (sym two)

  -- another field
  pub with-other-more : (new : List Field) → is_line f ≡ false → new ≡ all ++ f ∷ [] → with_notes notes fs ≡ new ++ with_notes (drop k notes) (drop (i + 1) fs)
  with-other-more new other one =
      let rest : List Field = drop (i + 1) fs in
      e ∙ ap (λ (gs : List Field). all ++ with_notes (drop k notes) gs) next
      ∙ ap (λ (gs : List Field). all ++ gs) (with-other f rest (drop k notes) other)
      ∙ sym (append_assoc all (f ∷ []) (with_notes (drop k notes) rest))
      ∙ ap (λ (gs : List Field). gs ++ with_notes (drop k notes) rest) (sym one)
