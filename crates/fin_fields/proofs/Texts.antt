-- Texts of lines and of fields, one more at a time.
use Rattle.std.proofs.Common.{◌≡◌, ℕ, ◌+◌, ◌<◌, List, [], ◌∷◌, ◌++◌, length, get_or, take, refl, sym, ap, ◌∙◌, append_assoc}
use Rattle.std.proofs.lemmas.List.{append-nil, take_more}
use Rattle.fin_fields.specs.declared.field.Field.{Field}
use Rattle.fin_fields.specs.Writing.{ended_lines, field_text, fields_text}

pub ended-append : (lines more : List (List ℕ)) → ended_lines (lines ++ more) ≡ ended_lines lines ++ ended_lines more
ended-append [] more = refl
ended-append (line ∷ lines) more = rw append_assoc (ap (λ (t : List ℕ). line ++ 13 ∷ 10 ∷ t) (ended-append lines more))

pub fields_text-append : (fs more : List Field) → fields_text (fs ++ more) ≡ fields_text fs ++ fields_text more
fields_text-append [] more = refl
fields_text-append (f ∷ fs) more = ap (λ (t : List ℕ). field_text f ++ t) (fields_text-append fs more) ∙ sym (append_assoc (field_text f) (fields_text fs) (fields_text more))

-- the text of one more line
pub ended-more : (lines : List (List ℕ)) (i : ℕ) (line start before middle after : List ℕ) → line ≡ get_or lines i line → i < length lines
    → before ≡ start ++ ended_lines (take i lines) → middle ≡ before ++ line → after ≡ middle ++ 13 ∷ 10 ∷ []
    → after ≡ start ++ ended_lines (take (i + 1) lines)
ended-more lines i line start before middle after at lt b m a =
    let more : take (i + 1) lines ≡ take i lines ++ line ∷ [] = take_more lines i line lt ∙ ap (λ (l : List ℕ). take i lines ++ l ∷ []) (sym at) in
    a ∙ (rw (m, b, more, ended-append (take i lines) (line ∷ [])) (simp append_assoc))

-- the text of one more field
pub fields_text-more : (fs : List Field) (i : ℕ) (f : Field) (before after : List ℕ) → f ≡ get_or fs i f → i < length fs
    → before ≡ fields_text (take i fs) → after ≡ before ++ field_text f
    → after ≡ fields_text (take (i + 1) fs)
fields_text-more fs i f before after at lt b a =
    let more : take (i + 1) fs ≡ take i fs ++ f ∷ [] = take_more fs i f lt ∙ ap (λ (l : Field). take i fs ++ l ∷ []) (sym at) in
    a ∙ rw (b, more, fields_text-append (take i fs) (f ∷ [])) (ap (λ (t : List ℕ). fields_text (take i fs) ++ t) (sym (append-nil (field_text f))))
