-- The first field 20 of a text by a walk along its lines.
use Rattle.std.proofs.Common.{◌≡◌, ℕ, ◌==◌, ◌&&◌, Bool, true, false, cond, List, [], ◌∷◌, Option, Some, None, refl, sym, ap, ◌∙◌}
use Rattle.std.specs.Prelude.{find, is_some, not, option_and_then, option_map, unwrap_or}
use Rattle.std.specs.Option.{option_map_or}
use Rattle.corr_text.specs.Lines.{lines_of}
use Rattle.fin_contents.specs.Plain.{only_line}
use Rattle.fin_fields.specs.Faults.{field_fault}
use Rattle.fin_fields.specs.Fields.{Heading, field_begun, grouped, heading_of}
use Rattle.fin_fields.specs.declared.field.Field.{Field}
use Rattle.pay_returns.specs.References.{first_reference, is_20, reference_if, reference_in}
use Rattle.pay_returns.specs.inner.Walking.{begins_20, content_20, ends_there, first_20, only_line_20}
use Rattle.pay_returns.proofs.Choices.{or-nothing}

-- the lines of a field 20 that begins so
abbrev lines_begun : (List ℕ × List (List ℕ)) → List (List ℕ)
lines_begun begun = begun.0 ∷ (grouped begun.1).continued

is-20 : (h : Heading) (lines : List (List ℕ)) → is_20 (field_begun h lines) ≡ begins_20 h
is-20 h lines = ap (λ (b : Bool). (h.tag == 20) && b) (or-nothing (32 == unwrap_or h.letter 32))

find-step : (p : Field → Bool) (f : Field) (fs : List Field) (b : Bool) → p f ≡ b → find p (f ∷ fs) ≡ cond b (Some f) (find p fs)
find-step p f fs b e = ap (λ (c : Bool). cond c (Some f) (find p fs)) e

begun-20 : (h : Heading) (lines : List (List ℕ)) (b : Bool) → begins_20 h ≡ b → option_map (λ f. f.lines) (find is_20 (grouped lines).fields) ≡ option_map lines_begun (first_20 lines)
    → option_map (λ f. f.lines) (find is_20 (field_begun h (grouped lines).continued ∷ (grouped lines).fields))
    ≡ option_map lines_begun (option_map_or (λ content. Some (content, lines)) (content_20 (Some h)) (first_20 lines))
begun-20 h lines true e rest =
    let f : Field = field_begun h (grouped lines).continued in
    ap (option_map (λ x. x.lines)) (find-step is_20 f (grouped lines).fields true (is-20 h (grouped lines).continued ∙ e))
    ∙ ap (λ (b : Bool). option_map lines_begun (option_map_or (λ content. Some (content, lines)) (cond b (Some h.content) None) (first_20 lines))) (sym e)
begun-20 h lines false e rest =
    let f : Field = field_begun h (grouped lines).continued in
    ap (option_map (λ x. x.lines)) (find-step is_20 f (grouped lines).fields false (is-20 h (grouped lines).continued ∙ e))
    ∙ rest
    ∙ ap (λ (b : Bool). option_map lines_begun (option_map_or (λ content. Some (content, lines)) (cond b (Some h.content) None) (first_20 lines))) (sym e)

found-step : (line : List ℕ) (lines : List (List ℕ)) (o : Option Heading) → heading_of line ≡ o → option_map (λ f. f.lines) (find is_20 (grouped lines).fields) ≡ option_map lines_begun (first_20 lines)
    → option_map (λ f. f.lines) (find is_20 (grouped (line ∷ lines)).fields) ≡ option_map lines_begun (first_20 (line ∷ lines))
found-step line lines None e rest = rw e rest
found-step line lines (Some h) e rest = rw e (begun-20 h lines (begins_20 h) refl rest)

-- the first field 20 that a walk finds is the first one of the fields
pub found : (lines : List (List ℕ)) → option_map (λ f. f.lines) (find is_20 (grouped lines).fields) ≡ option_map lines_begun (first_20 lines)
found [] = refl
found (line ∷ lines) = found-step line lines (heading_of line) refl (found lines)

-- it has one line alone exactly where the next line doesn't continue it
one-alone : (content : List ℕ) (lines : List (List ℕ)) → only_line (content ∷ (grouped lines).continued) ≡ cond (ends_there lines) (Some content) None
one-alone content [] = refl
one-alone content (line ∷ lines) = step (heading_of line) refl
  where
    step : (o : Option Heading) → heading_of line ≡ o → only_line (content ∷ (grouped (line ∷ lines)).continued) ≡ cond (ends_there (line ∷ lines)) (Some content) None
    step None e = rw e refl
    step (Some h) e = rw e refl

only-one : (o : Option (List ℕ × List (List ℕ))) → option_and_then only_line (option_map lines_begun o) ≡ option_and_then (λ begun. cond (ends_there begun.1) (Some begun.0) None) o
only-one None = refl
only-one (Some begun) = one-alone begun.0 begun.1

by-its-lines : (o : Option Field) → option_and_then reference_in o ≡ option_and_then reference_if (option_and_then only_line (option_map (λ f. f.lines) o))
by-its-lines None = refl
by-its-lines (Some f) = refl

of-fields : (lines : List (List ℕ)) → option_and_then reference_in (find is_20 (grouped lines).fields) ≡ option_and_then reference_if (only_line_20 lines)
of-fields lines =
    by-its-lines (find is_20 (grouped lines).fields)
    ∙ ap (λ (o : Option (List (List ℕ))). option_and_then reference_if (option_and_then only_line o)) (found lines)
    ∙ ap (option_and_then reference_if) (only-one (first_20 lines))

in-faultless : (text : List ℕ) (b : Bool) → is_some (field_fault text) ≡ b → first_reference text ≡ cond (not b) (option_and_then reference_if (only_line_20 (lines_of text))) None
in-faultless text true e =
    ap (λ (c : Bool). option_and_then reference_in (find is_20 (cond c [] (grouped (lines_of text)).fields))) e
in-faultless text false e =
    ap (λ (c : Bool). option_and_then reference_in (find is_20 (cond c [] (grouped (lines_of text)).fields))) e ∙ of-fields (lines_of text)

-- the reference that the first field 20 says: that of its only line, where the lines are sound
pub first_walked : (text : List ℕ) → first_reference text ≡ cond (not (is_some (field_fault text))) (option_and_then reference_if (only_line_20 (lines_of text))) None
first_walked text = in-faultless text (is_some (field_fault text)) refl
