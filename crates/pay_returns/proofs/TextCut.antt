-- The text of a return is cut into its two fields.
use Rattle.std.proofs.Common.{◌≡◌, ℕ, Bool, true, false, cond, List, [], ◌∷◌, ◌++◌, None, refl, sym, ap, ◌∙◌, append_assoc, arith}
use Rattle.std.specs.Prelude.{codes, is_some}
use Rattle.std.specs.List.{list_all}
use Rattle.std.proofs.lemmas.Bool.{not-true}
use Rattle.std.proofs.lemmas.Bool.Decides.{nat_tests}
use Rattle.corr_text.specs.Digits.{padded}
use Rattle.corr_text.specs.Lines.{lines_of}
use Rattle.corr_text.specs.Sets.{is_in, is_x_byte}
use Rattle.corr_text.specs.declared.set.Set.TheVariants.{X}
use Rattle.corr_text.proofs.laws.Written.{is_inner, line-again}
use Rattle.fin_contents.specs.Writing.{line_field}
use Rattle.fin_contents.proofs.laws.Bytes.{all-of-x, and-both}
use Rattle.fin_fields.specs.Faults.{field_fault}
use Rattle.fin_fields.specs.Fields.{grouped}
use Rattle.advices.specs.Received.{fields_in}
use Rattle.pay_returns.specs.Opposite.{return_text}
use Rattle.pay_returns.specs.References.{own_reference}
use Rattle.pay_returns.specs.inner.Walking.{are_sound_lines}
use Rattle.pay_returns.proofs.Faultless.{faultless}

x-inner : (b : ℕ) → is_x_byte b ≡ true → is_inner b ≡ true
x-inner b e = grind (arith, nat_tests)

all-inner : (bs : List ℕ) → list_all (is_in X) bs ≡ true → list_all is_inner bs ≡ true
all-inner [] e = refl
all-inner (b ∷ bs) e =
    let both = and-both (is_x_byte b) (list_all (is_in X) bs) e in
    rw (x-inner b both.0) (all-inner bs both.1)

-- the pieces of the text are two lines with their ends
ended-lines : (digits related : List ℕ) → digits ++ codes "R\r\n:21:" ++ related ++ codes "\r\n" ≡ (digits ++ 82 ∷ []) ++ 13 ∷ 10 ∷ ((58 ∷ 50 ∷ 49 ∷ 58 ∷ related) ++ 13 ∷ 10 ∷ [])
ended-lines digits related =
    append_assoc (digits ++ codes "R\r\n:21:") related (codes "\r\n")
    ∙ append_assoc digits (codes "R\r\n:21:") (related ++ codes "\r\n")
    ∙ sym (append_assoc digits (82 ∷ []) (13 ∷ 10 ∷ ((58 ∷ 50 ∷ 49 ∷ 58 ∷ related) ++ 13 ∷ 10 ∷ [])))

module _ (place : ℕ) (related : List ℕ) (own : list_all (is_in X) (own_reference place ++ 82 ∷ []) ≡ true) (plain : list_all (is_in X) related ≡ true) where
  abbrev reference : List ℕ
  reference = own_reference place ++ 82 ∷ []

  abbrev first : List ℕ
  first = 58 ∷ 50 ∷ 48 ∷ 58 ∷ reference

  abbrev second : List ℕ
  second = 58 ∷ 50 ∷ 49 ∷ 58 ∷ related

  text-is : return_text place related ≡ first ++ 13 ∷ 10 ∷ (second ++ 13 ∷ 10 ∷ [])
  text-is = ap (λ (rest : List ℕ). 58 ∷ 50 ∷ 48 ∷ 58 ∷ 80 ∷ rest) (ended-lines (padded 8 place) related)

  lines : lines_of (return_text place related) ≡ first ∷ second ∷ []
  lines =
      ap lines_of text-is
      ∙ line-again first (second ++ 13 ∷ 10 ∷ []) (all-inner first own)
      ∙ ap (λ (more : List (List ℕ)). first ∷ more) (line-again second [] (all-inner second plain))

  sound : are_sound_lines (first ∷ second ∷ []) ≡ true
  sound = rw (all-of-x reference own, all-of-x related plain) refl

  faultless-text : is_some (field_fault (return_text place related)) ≡ false
  faultless-text =
      not-true (is_some (field_fault (return_text place related)))
      (sym (faultless (return_text place related)) ∙ ap are_sound_lines lines ∙ sound)

  pub fields-cut : fields_in (return_text place related) ≡ line_field 20 None reference ∷ line_field 21 None related ∷ []
  fields-cut =
      ap (λ (b : Bool). cond b [] (grouped (lines_of (return_text place related))).fields) faultless-text
      ∙ ap (λ (ls : List (List ℕ)). (grouped ls).fields) lines
