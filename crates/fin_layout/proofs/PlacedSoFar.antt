-- Placing fields in turn.
use Rattle.std.proofs.Common.{◌≡◌, ℕ, ◌+◌, ◌<◌, ◌≤◌, true, false, List, [], ◌∷◌, ◌++◌, length, get_or, drop, Some, None, refl, sym, ◌∙◌, append_assoc}
use Rattle.std.proofs.lemmas.List.{drop_more, drop_all, append-nil}
use Rattle.fin_fields.specs.declared.field.Field.{Field}
use Rattle.fin_layout.specs.declared.place.Place.{Place}
use Rattle.fin_layout.specs.Order.{place_from, places_from, free_after, is_missing, missing_from}

-- what has been placed, and what the others take
pub record PlacedSoFar (order : List Place) (fs : List Field) (i free : ℕ) (found : List ℕ) : Type 0 where
  pub all : places_from order 0 fs ≡ found ++ places_from order free (drop i fs)

pub places-start : (order : List Place) (fs : List Field) (found : List ℕ) → found ≡ [] → PlacedSoFar order fs 0 0 found
places-start order fs found none = record { all = rw none refl }

module _ {order : List Place} {fs : List Field} {i free : ℕ} {found : List ℕ} (s : PlacedSoFar order fs i free found) where
  module _ (f : Field) (at : f ≡ get_or fs i f) (lt : i < length fs) where
    pub places-more : (k : ℕ) (new : List ℕ) → Some k ≡ place_from order free f → new ≡ found ++ k ∷ [] → PlacedSoFar order fs (i + 1) (free_after order k) new
    unfolding places_from
    places-more k new e added =
        record { all = s.all ∙ rw (drop_more fs i f lt, ← at, ← e, added) (sym (append_assoc found (k ∷ []) (places_from order (free_after order k) (drop (i + 1) fs)))) }

    pub places-stop : None ≡ place_from order free f → found ≡ places_from order 0 fs
    unfolding places_from
    places-stop e = sym (s.all ∙ rw (drop_more fs i f lt, ← at, ← e) (append-nil found))

  pub places-end : length fs ≤ i → found ≡ places_from order 0 fs
  unfolding places_from
  places-end le = sym (s.all ∙ rw (drop_all i fs le) (append-nil found))

-- no place before this one is missing
pub record NoneMissing (order : List Place) (found : List ℕ) (k : ℕ) : Type 0 where
  pub later : missing_from 0 order found ≡ missing_from k (drop k order) found

pub missing-start : (order : List Place) (found : List ℕ) → NoneMissing order found 0
missing-start order found = record { later = refl }

module _ {order : List Place} {found : List ℕ} {k : ℕ} (s : NoneMissing order found k) where
  module _ (d : Place) (lt : k < length order) where
    pub missing-more : is_missing (get_or order k d) k found ≡ false → NoneMissing order found (k + 1)
    unfolding missing_from
    missing-more e = record { later = s.later ∙ rw (drop_more order k d lt, e) refl }

    pub missing-here : is_missing (get_or order k d) k found ≡ true → Some k ≡ missing_from 0 order found
    unfolding missing_from
    missing-here e = sym (s.later ∙ rw (drop_more order k d lt, e) refl)

  pub missing-none : length order ≤ k → None ≡ missing_from 0 order found
  unfolding missing_from
  missing-none le = sym (s.later ∙ rw (drop_all k order le) refl)
