-- The two slashes in a row that end a reference.
use Rattle.std.proofs.Common.{◌≡◌, ℕ, zero, suc, ◌+◌, ◌≤◌, ◌==◌, ◌&&◌, Bool, true, false, List, [], ◌∷◌, ◌++◌, length, take, Option, Some, None, option_map, refl, sym, ap, ◌∙◌, arith, inl, inr, add-one}
use Rattle.std.specs.Prelude.{IfSome}
use Rattle.std.specs.List.{zip}
use Rattle.std.proofs.lemmas.Bool.{cases_Bool}
use Rattle.std.proofs.lemmas.Bool.Decides.{nat_tests}
use Rattle.fin_fields.proofs.laws.Positions.{position-here, position-later}
use Rattle.mt950.specs.Parts.{double_slash_in}
use Rattle.mt950.proofs.Steps.{both, mapped, unmapped}

-- two slashes
abbrev are_slashes : ℕ × ℕ → Bool
are_slashes p = (p.0 == 47) && (p.1 == 47)

here : (a b : ℕ) (bs : List ℕ) → are_slashes (a, b) ≡ true → double_slash_in (a ∷ b ∷ bs) ≡ Some 0
here a b bs e = position-here are_slashes (a, b) (zip (b ∷ bs) bs) e

later : (a b : ℕ) (bs : List ℕ) → are_slashes (a, b) ≡ false → double_slash_in (a ∷ b ∷ bs) ≡ option_map (λ i. i + 1) (double_slash_in (b ∷ bs))
later a b bs e = position-later are_slashes (a, b) (zip (b ∷ bs) bs) e

none-later : (a b : ℕ) (bs : List ℕ) → are_slashes (a, b) ≡ false → double_slash_in (b ∷ bs) ≡ None → double_slash_in (a ∷ b ∷ bs) ≡ None
none-later a b bs e none = later a b bs e ∙ ap (option_map (λ i. i + 1)) none

-- where there are none, none are at the front
none-here : (a b : ℕ) (bs : List ℕ) → double_slash_in (a ∷ b ∷ bs) ≡ None → (are_slashes (a, b) ≡ false) × (double_slash_in (b ∷ bs) ≡ None)
none-here a b bs none =
    elim (cases_Bool (are_slashes (a, b))) [
      | inl met ↦ absurd (cc (sym (here a b bs met) ∙ none))
      | inr unmet ↦ (unmet, unmapped (λ i. i + 1) (double_slash_in (b ∷ bs)) (sym (later a b bs unmet) ∙ none))
    ]

some-later : (a b : ℕ) (bs : List ℕ) (n : ℕ) → are_slashes (a, b) ≡ false → double_slash_in (b ∷ bs) ≡ Some n → double_slash_in (a ∷ b ∷ bs) ≡ Some (n + 1)
some-later a b bs n e at = later a b bs e ∙ ap (option_map (λ i. i + 1)) at

-- two slashes after a reference that has none, and doesn't end with one, are the first
pub ends-it : (reference text : List ℕ) → double_slash_in (reference ++ 47 ∷ []) ≡ None
    → double_slash_in (reference ++ 47 ∷ 47 ∷ text) ≡ Some (length reference)
ends-it [] text none = here 47 47 text refl
ends-it (a ∷ []) text none =
    let s = none-here a 47 [] none in
    some-later a 47 (47 ∷ text) 0 s.0 (ends-it [] text s.1)
ends-it (a ∷ b ∷ rs) text none =
    let s = none-here a b (rs ++ 47 ∷ []) none in
    some-later a b (rs ++ 47 ∷ 47 ∷ text) (length (b ∷ rs)) s.0 (ends-it (b ∷ rs) text s.1) ∙ ap Some (omega arith)

-- ---- a reference that two slashes end has none

slash-first : (b : ℕ) (bs : List ℕ) → double_slash_in (b ∷ bs) ≡ Some 0 → (b == 47) ≡ true
slash-first b [] at = absurd (cc at)
slash-first b (c ∷ cs) at =
    elim (cases_Bool (are_slashes (b, c))) [
      | inl met ↦ (both (b == 47) (c == 47) met).0
      | inr unmet ↦
          let n = mapped (λ i. i + 1) (double_slash_in (c ∷ cs)) 0 (sym (later b c cs unmet) ∙ at) in
          let next : n.0 + 1 ≡ 0 = n.2 in
          absurd (omega arith)
    ]

-- a byte before the first two slashes, and the slash that ends the reference
front-none : (a b : ℕ) (bs : List ℕ) (n : ℕ) → are_slashes (a, b) ≡ false → double_slash_in (b ∷ bs) ≡ Some n
    → double_slash_in (take n (b ∷ bs) ++ 47 ∷ []) ≡ None → double_slash_in (a ∷ take n (b ∷ bs) ++ 47 ∷ []) ≡ None
front-none a b bs zero unmet at rest =
    let slash : (b == 47) ≡ true = slash-first b bs at in
    let other : are_slashes (a, 47) ≡ false = grind (arith, nat_tests) in
    none-later a 47 [] other rest
front-none a b bs (suc n) unmet at rest = none-later a b (take n bs ++ 47 ∷ []) unmet rest

pub ended-there : (rest : List ℕ) (at : ℕ) → double_slash_in rest ≡ Some at → double_slash_in (take at rest ++ 47 ∷ []) ≡ None
ended-there [] at e = absurd (cc e)
ended-there (a ∷ []) at e = absurd (cc e)
ended-there (a ∷ b ∷ bs) at e =
    elim (cases_Bool (are_slashes (a, b))) [
      | inl met ↦
          let first : Some 0 ≡ Some at = sym (here a b bs met) ∙ e in
          let same : 0 ≡ at = cc first in
          rw (← same) refl
      | inr unmet ↦
          let n = mapped (λ i. i + 1) (double_slash_in (b ∷ bs)) at (sym (later a b bs unmet) ∙ e) in
          let same : n.0 + 1 ≡ at = n.2 in
          rw (← same, add-one) (front-none a b bs n.0 unmet n.1 (ended-there (b ∷ bs) n.0 n.1))
    ]

-- they stand within the text
pub slashes-within : (rest : List ℕ) (at : ℕ) → double_slash_in rest ≡ Some at → at + 2 ≤ length rest
slashes-within [] at e = absurd (cc e)
slashes-within (a ∷ []) at e = absurd (cc e)
slashes-within (a ∷ b ∷ bs) at e =
    elim (cases_Bool (are_slashes (a, b))) [
      | inl met ↦
          let first : Some 0 ≡ Some at = sym (here a b bs met) ∙ e in
          let same : 0 ≡ at = cc first in
          omega arith
      | inr unmet ↦
          let n = mapped (λ i. i + 1) (double_slash_in (b ∷ bs)) at (sym (later a b bs unmet) ∙ e) in
          let same : n.0 + 1 ≡ at = n.2 in
          let within = slashes-within (b ∷ bs) n.0 n.1 in
          omega arith
    ]

pub within : (rest : List ℕ) (o : Option ℕ) → o ≡ double_slash_in rest → IfSome o (λ at. at + 2 ≤ length rest)
within rest None e = tt
within rest (Some at) e = slashes-within rest at (sym e)
