-- Where no field takes a place of a row of them, nothing is found or read at any of those places.
use Rattle.std.proofs.Common.{◌≡◌, ◌+◌, ◌≤◌, ◌==◌, ◌||◌, ℕ, Bool, true, false, List, [], ◌∷◌, None, Result, Ok, refl, ap, ◌∙◌, arith, option_map, option_and_then, position, slice_get}
use Rattle.std.proofs.lemmas.Bool.Decides.{nat_tests}
use Rattle.std.specs.List.{list_any}
use Rattle.corr_text.specs.declared.fault.Code.{Code}
use Rattle.fin_fields.specs.declared.field.Field.{Field}
use Rattle.fin_fields.proofs.laws.Positions.{position-later}
use Rattle.fin_layout.specs.Contents.{all_from}
use Rattle.fin_layout.specs.Order.{field_in, is_between}

neither : (b c : Bool) → (b || c) ≡ false → (b ≡ false) × (c ≡ false)
neither true c e = absurd (cc e)
neither false c e = (refl, e)

module _ (first last k : ℕ) (low : first ≤ k) (high : k ≤ last) where
  apart : (p : ℕ) → is_between first last p ≡ false → (p == k) ≡ false
  apart p outside = grind (arith, nat_tests)

  none-at : (found : List ℕ) → list_any (is_between first last) found ≡ false → position (λ p. p == k) found ≡ None
  none-at [] none = refl
  none-at (p ∷ found) none =
      let both = neither (is_between first last p) (list_any (is_between first last) found) none in
      position-later (λ q. q == k) p found (apart p both.0) ∙ ap (option_map (λ i. i + 1)) (none-at found both.1)

  -- where no field takes a place of a row of them, none is found at any of those places
  pub none-taken : (fs : List Field) (found : List ℕ) → list_any (is_between first last) found ≡ false → field_in fs found k ≡ None
  none-taken fs found none = ap (option_and_then (λ i. option_map (λ f. (i, f)) (slice_get fs i))) (none-at found none)

  -- and none is read there
  pub none-read : {A : Type 0} (whole : List Field) (read : Field → Result A Code) (i : ℕ) (found : List ℕ) (fs : List Field) → list_any (is_between first last) found ≡ false → all_from whole k read i found fs ≡ Ok []
  unfolding all_from
  none-read whole read i [] fs none = refl
  none-read whole read i (p ∷ found) [] none = refl
  none-read whole read i (p ∷ found) (f ∷ fs) none =
      let both = neither (is_between first last p) (list_any (is_between first last) found) none in
      rw (apart p both.0) (none-read whole read (i + 1) found fs both.1)
