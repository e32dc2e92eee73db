-- Tests that are put together.
use Rattle.std.proofs.Common.{◌≡◌, ◌+◌, ◌&&◌, ◌||◌, Bool, true, false, List, [], ◌∷◌, Option, Some, None, refl, ap, ◌∙◌, inl, inr}
use Rattle.std.specs.Prelude.{is_some, option_map}
use Rattle.std.specs.List.{list_any, position}
use Rattle.std.proofs.lemmas.Bool.{cases_Bool}
use Rattle.fin_fields.proofs.laws.Positions.{position-here, position-later}

pub and-grouped : (a b c : Bool) → (a && (b && c)) ≡ ((a && b) && c)
and-grouped true b c = refl
and-grouped false b c = refl

pub or-nothing : (a : Bool) → (a || false) ≡ a
or-nothing true = refl
or-nothing false = refl

some-later : {A : Type 0} (f : A → A) (o : Option A) → is_some (option_map f o) ≡ is_some o
some-later f None = refl
some-later f (Some x) = refl

-- a list has a place that passes exactly where one of its elements passes
pub some-position : {A : Type 0} (p : A → Bool) (xs : List A) → is_some (position p xs) ≡ list_any p xs
some-position p [] = refl
some-position p (x ∷ xs) =
    elim (cases_Bool (p x)) [
      | inl met ↦ ap is_some (position-here p x xs met) ∙ rw met refl
      | inr unmet ↦ ap is_some (position-later p x xs unmet) ∙ some-later (λ i. i + 1) (position p xs) ∙ some-position p xs ∙ rw unmet refl
    ]
