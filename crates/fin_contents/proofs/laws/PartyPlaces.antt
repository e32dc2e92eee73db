-- The field of a party that was read at a place, when it's written, is the first that may stand there from a lower bound on.
use Rattle.std.proofs.Common.{◌≡◌, ℕ, ◌+◌, ◌-◌, ◌==◌, not, true, List, [], ◌∷◌, ◌++◌, length, get_or, take, drop, Option, Some, Ok, ap, ◌∙◌}
use Rattle.std.specs.List.{list_all}
use Rattle.ref_tables.specs.Seen.{Tables}
use Rattle.fin_fields.specs.declared.field.Field.{Field}
use Rattle.fin_layout.specs.declared.place.Place.{Place}
use Rattle.fin_layout.specs.Contents.{in_option, in_place}
use Rattle.fin_layout.specs.inner.Segments.{IsFirst, Segment}
use Rattle.fin_parties.specs.Writing.{party_field}
use Rattle.fin_parties.specs.declared.party.Party.{Party}
use Rattle.fin_contents.specs.Parties.{known_party_of}
use Rattle.fin_contents.specs.Writing.{some_field}
use Rattle.fin_contents.proofs.laws.Back.{some-weaker}
use Rattle.fin_contents.proofs.laws.Placed.{first-of-tag, one-segment, party-fits-at, some-segment}
use Rattle.fin_contents.proofs.laws.Said.{HoldsInPlaces, Said, Stands, said-one, said-option}

module _ (order : List Place) (P : Field → Type 0) (t : Tables) (fs : List Field) (found : List ℕ) (h : HoldsInPlaces (Stands order P) found fs) (d : Place) where
  -- place k is for this tag, and no place between `low` and it is
  module _ (low k tag : ℕ) (at : (get_or order k d).tag ≡ tag) (cut : drop low order ≡ take (k - low) (drop low order) ++ get_or order k d ∷ drop (k + 1) order)
      (far : list_all (λ q. not (q.tag == tag)) (take (k - low) (drop low order)) ≡ true) (here : low + length (take (k - low) (drop low order)) ≡ k) where
    first-party : (p : Party) → Said (Stands order P k) (known_party_of t) p → IsFirst order low k (party_field tag p)
    first-party p s =
        first-of-tag order low (take (k - low) (drop low order)) (get_or order k d) (drop (k + 1) order) (party_field tag p) cut far
        (party-fits-at order P k tag d at t p s)
        ∙ ap Some here

    pub one-party : (p : Party) → in_place order fs found k (known_party_of t) ≡ Ok p → Segment order low k (party_field tag p ∷ [])
    one-party p e = one-segment order low k (party_field tag p) (first-party p (said-one (Stands order P) fs k (known_party_of t) order found p h e))

    pub some-party : (o : Option Party) → in_option fs found k (known_party_of t) ≡ Ok o → Segment order low k (some_field (party_field tag) o)
    some-party o e =
        let said = said-option (Stands order P) fs k (known_party_of t) found o h e in
        some-segment order low k (party_field tag) o
        (some-weaker (Said (Stands order P k) (known_party_of t)) (λ p. IsFirst order low k (party_field tag p)) o said first-party)
