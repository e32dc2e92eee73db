-- The order of a message type's fields, and the places that fields take in it.
use Rattle.std.specs.Prelude.{ℕ, ◌+◌, ◌/◌, ◌%◌, ◌==◌, ◌&&◌, nat_le, not, Bool, List, [], ◌∷◌, drop, position, slice_get, slice_index, Option, Some, None, option_map, option_and_then, unwrap_or, if◌then◌else◌}
use Rattle.std.specs.List.{list_any}
use Rattle.fin_fields.specs.declared.field.Field.{Field}
use Rattle.fin_fields.specs.Faults.{letter_of}
use Rattle.fin_layout.specs.declared.place.Place.{Place}

-- a field may stand at a place
abbrev pub fits : Place → Field → Bool
fits p f = (p.tag == f.tag) && list_any (λ o. o == letter_of f) p.options

-- the first place from `free` on where a field may stand
abbrev pub place_from : List Place → ℕ → Field → Option ℕ
place_from order free f = option_map (λ k. free + k) (position (λ p. fits p f) (drop free order))

-- the first place that is free after a field at this one: where more than one field may stand, the same
abbrev pub free_after : List Place → ℕ → ℕ
free_after order k = unwrap_or (option_map (λ p. if p.many then k else k + 1) (slice_get order k)) (k + 1)

-- the places that fields take, up to the first field that takes none
unfoldable pub places_from : List Place → ℕ → List Field → List ℕ
places_from order free [] = []
places_from order free (f ∷ fs) = unwrap_or (option_map (λ k. k ∷ places_from order (free_after order k) fs) (place_from order free f)) []

-- a field must stand at place k, and none of those found does
abbrev pub is_missing : Place → ℕ → List ℕ → Bool
is_missing p k found = p.must && not (list_any (λ q. q == k) found)

-- the first place, from number k on, where a field must stand and none does
unfoldable pub missing_from : ℕ → List Place → List ℕ → Option ℕ
missing_from k [] found = None
missing_from k (p ∷ order) found = if is_missing p k found then Some k else missing_from (k + 1) order found

-- the first field at a place, and its number
abbrev pub field_in : List Field → List ℕ → ℕ → Option (ℕ × Field)
field_in fs found place = option_and_then (λ i. option_map (λ f. (i, f)) (slice_get fs i)) (position (λ p. p == place) found)

-- a place from this one to that one, both among them
abbrev pub is_between : ℕ → ℕ → ℕ → Bool
is_between first last p = nat_le first p && nat_le p last

-- the tag of a place: two digits where it has several options, else the whole tag
abbrev pub place_tag : Place → List ℕ
place_tag p = (48 + p.tag / 10) ∷ (48 + p.tag % 10)
    ∷ (if (slice_index p.options 0 == slice_index p.options 1) && (slice_index p.options 1 == slice_index p.options 2) && (slice_index p.options 2 == slice_index p.options 3)
    then slice_index p.options 0 else 32) ∷ []
