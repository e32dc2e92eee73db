-- Fields of lines that have bytes of set X alone.
use Rattle.std.proofs.Common.{◌≡◌, ℕ, ◌+◌, ◌-◌, ◌*◌, ◌&&◌, ◌||◌, not, Bool, true, false, cond, List, [], ◌∷◌, option_and_then, option_map, Option, Some, None, refl, subst, ap, ◌∙◌, arith}
use Rattle.std.specs.Prelude.{◌==◌, IfSome}
use Rattle.std.specs.Char.{is_ascii_digit, is_ascii_uppercase}
use Rattle.std.specs.List.{All, list_any}
use Rattle.std.proofs.lemmas.Bool.{or_parts}
use Rattle.std.proofs.lemmas.List.Elements.{All-cons}
use Rattle.corr_text.specs.First.{first_of}
use Rattle.corr_text.specs.Lines.{lines_of}
use Rattle.corr_text.specs.Sets.{is_x_byte}
use Rattle.fin_fields.specs.declared.fault.FieldFault.{FieldFault}
use Rattle.fin_fields.specs.declared.fault.FieldFault.TheVariants.{P20}
use Rattle.fin_fields.specs.Fields.{Grouped, Heading, after_letter, after_tag, field_begun, fields_of, grouped, heading_of, with_line}
use Rattle.fin_fields.specs.Faults.{faulty_line, field_fault, has_other_byte, is_outside_x, outside_x, outside_x_at}
use Rattle.fin_fields.proofs.laws.Positions.{position-none}

-- the bytes after the first one
after-one : (b : ℕ) (bs : List ℕ) → has_other_byte (b ∷ bs) ≡ false → has_other_byte bs ≡ false
after-one b bs e = (or_parts (not (is_x_byte b)) (has_other_byte bs) e).1

abbrev IsClean : Heading → Type 0
IsClean h = has_other_byte h.content ≡ false

either : (b : Bool) (o p : Option Heading) → IfSome o IsClean → IfSome p IsClean → IfSome (cond b o p) IsClean
either true o p h k = h
either false o p h k = k

after-letter : (tag letter : ℕ) (rest : List ℕ) → has_other_byte rest ≡ false → IfSome (after_letter tag letter rest) IsClean
after-letter tag letter [] e = tt
after-letter tag letter (c ∷ rest) e = either (c == 58) _ _ (after-one c rest e) tt

after-tag : (tag : ℕ) (rest : List ℕ) → has_other_byte rest ≡ false → IfSome (after_tag tag rest) IsClean
after-tag tag [] e = tt
after-tag tag (c ∷ rest) e =
    either (c == 58) _ _ (after-one c rest e) (either (is_ascii_uppercase c) _ _ (after-letter tag c rest (after-one c rest e)) tt)

clean-content : (line : List ℕ) → has_other_byte line ≡ false → IfSome (heading_of line) IsClean
clean-content [] e = tt
clean-content (c ∷ []) e = tt
clean-content (c ∷ tens ∷ []) e = tt
clean-content (c ∷ tens ∷ ones ∷ rest) e =
    either ((c == 58) && is_ascii_digit tens && is_ascii_digit ones) _ _
    (after-tag (10 * (tens - 48) + (ones - 48)) rest (after-one ones rest (after-one tens (ones ∷ rest) (after-one c (tens ∷ ones ∷ rest) e)))) tt

neither : (a b : Bool) → a ≡ false → b ≡ false → (a || b) ≡ false
neither a b p q = rw (p, q) refl

-- what a line says that begins a field has no byte outside X where the line has none
pub content-of-x : (line : List ℕ) (h : Heading) → heading_of line ≡ Some h → has_other_byte line ≡ false → has_other_byte h.content ≡ false
content-of-x line h is e = subst (λ o. IfSome o IsClean) is (clean-content line e)

record Clean (g : Grouped) : Type 0 where
  continued : list_any has_other_byte g.continued ≡ false
  fields : All (λ f. is_outside_x f ≡ false) g.fields

clean-line : (line : List ℕ) (h : Option Heading) (g : Grouped) → IfSome h IsClean → has_other_byte line ≡ false → Clean g → Clean (with_line line h g)
clean-line line None g is fine c = record {
  continued = neither (has_other_byte line) (list_any has_other_byte g.continued) fine c.continued;
  fields = c.fields;
}
clean-line line (Some h) g is fine c = record {
  continued = refl;
  fields = All-cons (λ f. is_outside_x f ≡ false) (field_begun h g.continued) g.fields
      (neither (has_other_byte h.content) (list_any has_other_byte g.continued) is c.continued) c.fields;
}

clean-all : (lines : List (List ℕ)) → list_any has_other_byte lines ≡ false → Clean (grouped lines)
clean-all [] e = record { continued = refl; fields = λ k d lt. absurd (omega arith) }
clean-all (line ∷ lines) e =
    let parts = or_parts (has_other_byte line) (list_any has_other_byte lines) e in
    clean-line line (heading_of line) (grouped lines) (clean-content line parts.0) parts.0 (clean-all lines parts.1)

pub none-outside : (text : List ℕ) → list_any has_other_byte (lines_of text) ≡ false → outside_x (fields_of text) ≡ None
none-outside text e = ap (option_and_then (outside_x_at (fields_of text))) (position-none is_outside_x (fields_of text) (clean-all (lines_of text) e).fields)

first-none : (line : Option ℕ) (outside : Option FieldFault) → line ≡ None → outside ≡ None → first_of (option_map (λ n. P20 n) line ∷ outside ∷ []) ≡ None
first-none line outside p q = rw (p, q) refl

pub no-fault : (text : List ℕ) → faulty_line (lines_of text) ≡ None → list_any has_other_byte (lines_of text) ≡ false → field_fault text ≡ None
no-fault text sound e = first-none (faulty_line (lines_of text)) (outside_x (fields_of text)) sound (none-outside text e)

pub two-plain : (line : List ℕ) (lines all : List (List ℕ)) → all ≡ line ∷ lines → has_other_byte line ≡ false → list_any has_other_byte lines ≡ false → list_any has_other_byte all ≡ false
two-plain line lines all e p q = ap (list_any has_other_byte) e ∙ neither (has_other_byte line) (list_any has_other_byte lines) p q
