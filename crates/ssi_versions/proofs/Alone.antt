-- A row that overlaps none shares no day with those of its key, so that its place goes where a bisection says.
use Rattle.std.proofs.Common.{◌≡◌, ℕ, ◌≤◌, ◌<◌, Bool, true, false, ◌&&◌, List, [], ◌∷◌, ◌++◌, length, get_or, Option, Some, None, refl, subst}
use Rattle.std.specs.Prelude.{All, position, slice_get, if◌then◌else◌}
use Rattle.std.specs.Global.{Vec}
use Rattle.std.specs.List.{insert}
use Rattle.std.specs.List.Sorted.{IsPartitionPoint, IsPermutation}
use Rattle.std.specs.Option.{option_map_or}
use Rattle.std.specs.Str.{bytes_eq}
use Rattle.std.proofs.lemmas.Option.{get_or_from_slice_get, slice_get_within}
use Rattle.std.proofs.lemmas.Slice.Eq.{bytes_eq-Decides}
use Rattle.ssi_versions.specs.declared.row.SsiRow.{SsiRow}
use Rattle.ssi_versions.specs.Index.{HasSpan, IsInDayOrder, IsTable, has_bank_key, key_by_bank, places_under, places_where}
use Rattle.ssi_versions.specs.inner.Index.{NotesPlace, has_begun, holds_at}
use Rattle.ssi_versions.specs.InstructionList.{IsInForm}
use Rattle.ssi_versions.specs.Rows.{overlaps, shares_a_day}
use Rattle.ssi_versions.proofs.Entering.{order-kept, order-more}
use Rattle.ssi_versions.proofs.Places.{places-pass}
use Rattle.ssi_versions.proofs.Standing.{none-overlaps}
use Rattle.ssi_versions.proofs.Texts.{same-texts}

-- of one currency and text, only the days tell two rows apart
only-days : (ccy bank days : Bool) → ccy ≡ true → bank ≡ true → (ccy && bank && days) ≡ false → days ≡ false
only-days ccy bank days one same e = rw (one, same) at e

module _ (rows : List SsiRow) (r : SsiRow) (form : All IsInForm rows) (own : IsInForm r) (alone : position (overlaps r) rows ≡ None) where
  apart-at : (p : ℕ) → holds_at (has_bank_key (key_by_bank r.ccy.0 r.bank)) rows p ≡ true → holds_at (shares_a_day r) rows p ≡ false
  apart-at p keyed = go (slice_get rows p) refl keyed
    where
      go : (o : Option SsiRow) → slice_get rows p ≡ o → option_map_or (has_bank_key (key_by_bank r.ccy.0 r.bank)) o false ≡ true → option_map_or (shares_a_day r) o false ≡ false
      go None is key = refl
      go (Some x) is key =
          let lt = slice_get_within rows p x is in
          let item : get_or rows p x ≡ x = get_or_from_slice_get rows p x x is in
          let texts = same-texts r x own (subst IsInForm item (form p x lt)) key in
          let apart = subst (λ (y : SsiRow). overlaps r y ≡ false) item (none-overlaps r rows p x alone lt) in
          only-days (bytes_eq r.ccy.0 x.ccy.0) (bytes_eq r.bank x.bank) (shares_a_day r x) ((bytes_eq-Decides r.ccy.0 x.ccy.0).1 texts.0) ((bytes_eq-Decides r.bank x.bank).1 texts.1) apart

  -- no row of its key shares a day with it
  apart-from : (places : List ℕ) → IsPermutation (places_where (has_bank_key (key_by_bank r.ccy.0 r.bank)) 0 rows) places
      → (k d : ℕ) → k < length places → holds_at (shares_a_day r) rows (get_or places k d) ≡ false
  apart-from places moved k d lt = apart-at (get_or places k d) (places-pass (has_bank_key (key_by_bank r.ccy.0 r.bank)) rows places moved k d lt)

module _ (rows : List SsiRow) (r : SsiRow) (old new : List (List ℕ × Vec ℕ)) (table : IsTable rows old) (own : IsInForm r) (span : HasSpan r) (alone : position (overlaps r) rows ≡ None)
    (n : ℕ) (bound : n ≤ length (places_under old (key_by_bank r.ccy.0 r.bank)))
    (point : IsPartitionPoint (λ p. holds_at (has_begun r.from) rows p ≡ true) (λ p. holds_at (has_begun r.from) rows p ≡ false) (places_under old (key_by_bank r.ccy.0 r.bank)) n) where
  order-now : (key : List ℕ) (b : Bool) → bytes_eq (key_by_bank r.ccy.0 r.bank) key ≡ b
      → IsInDayOrder (rows ++ r ∷ []) (if b then insert (places_under old (key_by_bank r.ccy.0 r.bank)) n (length rows) else places_under old key)
  order-now key true e =
      let key-r = key_by_bank r.ccy.0 r.bank in
      order-more rows r (places_under old key-r) span (table.order key-r) n bound point (apart-from rows r table.form own alone (places_under old key-r) (table.index key-r))
  order-now key false e = order-kept rows r (places_under old key) span (table.order key)

  -- one more row: the places of each key stand in the order of days
  pub order_more : (place : ℕ) → place ≡ length rows → NotesPlace old new (key_by_bank r.ccy.0 r.bank) n place → (key : List ℕ) → IsInDayOrder (rows ++ r ∷ []) (places_under new key)
  order_more place e put key = rw (put key, e) (order-now key (bytes_eq (key_by_bank r.ccy.0 r.bank) key) refl)
