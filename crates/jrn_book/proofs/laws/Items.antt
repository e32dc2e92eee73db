-- The items of a journal and their records: one more, several more, and how many there are.
use Rattle.std.proofs.Common.{◌≡◌, ◌∙◌, ℕ, ◌+◌, ◌≤◌, List, [], ◌∷◌, ◌++◌, length, length-append, refl, ap, arith}
use Rattle.std.specs.Prelude.{map}
use Rattle.std.proofs.lemmas.Bool.{le-leb, leb-true}
use Rattle.std.proofs.lemmas.List.{length-map, map-append}
use Rattle.day_model.specs.declared.change.Change.{Change}
use Rattle.day_model.specs.declared.change.Item.{Item}
use Rattle.day_model.specs.declared.change.Item.TheVariants.{Entered, Changed}
use Rattle.day_model.specs.declared.change.What.{What}
use Rattle.day_model.specs.declared.entry.Entry.{Entry}
use Rattle.day_model.specs.Changes.{is_by}
use Rattle.day_model.specs.Chart.{AreBy, Chart, with_change}
use Rattle.day_model.specs.Items.{Replayed, items_of, replay}
use Rattle.day_model.specs.Legal.{IsLegal}
use Rattle.day_model.proofs.laws.Changes.{list_all-then}
use Rattle.day_model.proofs.laws.Items.{items_changed, items_entered, replay_items}
use Rattle.jrn_codec.specs.Items.{item_bytes}
use Rattle.jrn_codec.specs.Record.{entry_bytes}
use Rattle.jrn_book.specs.declared.version.Version.{Version}
use Rattle.jrn_book.specs.declared.version.Version.TheVariants.{One, Two}
use Rattle.jrn_book.specs.Journal.{all_records, all_records_in, item_records}
use Rattle.jrn_book.specs.Reading.{chart_with, entries_with}
use Rattle.jrn_book.specs.Versions.{bytes_in, head_in}

-- changes that came by then came by later
pub by_later : (chart : Chart) (k m : ℕ) → k ≤ m → AreBy k chart → AreBy m chart
by_later chart k m le by =
    list_all-then (is_by k) (is_by m) chart.changes (λ c is. le-leb c.after m (let l = leb-true c.after k is in omega (arith, l, le))) by

-- ---- one item more

-- an item that comes next stands last
pub items_with : (chart : Chart) (history : List Entry) (item : Item) → IsLegal chart history
    → items_of (chart_with chart history item) (entries_with history item) ≡ items_of chart history ++ item ∷ []
items_with chart history (Entered e) legal = items_entered chart history e legal.changes.by_now
items_with chart history (Changed what) legal = items_changed chart history what

-- so does its record
pub item_records_with : (chart : Chart) (history : List Entry) (item : Item) → IsLegal chart history
    → item_records (chart_with chart history item) (entries_with history item) ≡ item_records chart history ++ item_bytes item ∷ []
item_records_with chart history item legal = ap (map item_bytes) (items_with chart history item legal) ∙ map-append item_bytes (items_of chart history) (item ∷ [])

-- it isn't in the header
pub head_with : (version : Version) (chart : Chart) (history : List Entry) (item : Item) → head_in version (chart_with chart history item) ≡ head_in version chart
head_with One chart history (Entered e) = refl
head_with One chart history (Changed what) = refl
head_with Two chart history (Entered e) = refl
head_with Two chart history (Changed what) = refl

-- all records of a version with one more
pub records_with : (version : Version) (chart : Chart) (history : List Entry) (item : Item) → IsLegal chart history
    → all_records_in version (chart_with chart history item) (entries_with history item) ≡ all_records_in version chart history ++ bytes_in version item ∷ []
records_with version chart history item legal =
    let records = ap (map (bytes_in version)) (items_with chart history item legal) ∙ map-append (bytes_in version) (items_of chart history) (item ∷ []) in
    λ i. head_with version chart history item i ∷ records i

-- a change more, whatever is legal
pub records_changed : (chart : Chart) (history : List Entry) (what : What)
    → item_records (with_change chart (length history) what) history ≡ item_records chart history ++ item_bytes (Changed what) ∷ []
records_changed chart history what = ap (map item_bytes) (items_changed chart history what) ∙ map-append item_bytes (items_of chart history) (Changed what ∷ [])

-- an entry more, which comes after all changes
pub records_more : (chart : Chart) (history : List Entry) (e : Entry) → AreBy (length history) chart → item_records chart (history ++ e ∷ []) ≡ item_records chart history ++ entry_bytes e ∷ []
records_more chart history e by =
    ap (λ (items : List Item). map item_bytes items) (items_entered chart history e by) ∙ map-append item_bytes (items_of chart history) (Entered e ∷ [])

-- ---- how many there are

-- each item that is read is a change or an entry
items_count : (r : Replayed) (items : List Item) → length (replay r items).changes + length (replay r items).entries ≡ (length r.changes + length r.entries) + length items
items_count r [] = omega arith
items_count r (Entered e ∷ items) =
    let rest = items_count (record r { entries = r.entries ++ e ∷ [] }) items in
    omega (arith, rest, length-append r.entries (e ∷ []))
items_count r (Changed what ∷ items) =
    let c : Change = record { after = length r.entries; what = what } in
    let rest = items_count (record r { changes = r.changes ++ c ∷ [] }) items in
    omega (arith, rest, length-append r.changes (c ∷ []))

-- the header, the changes and the entries
pub records_count : (chart : Chart) (history : List Entry) → IsLegal chart history → length (all_records chart history) ≡ length chart.changes + length history + 1
records_count chart history legal =
    let none : Replayed = record { changes = []; entries = [] } in
    let items : List Item = items_of chart history in
    let count = items_count none items in
    let both : length (replay none items).changes + length (replay none items).entries ≡ length chart.changes + length history =
    ap (λ (r : Replayed). length r.changes + length r.entries) (replay_items chart history legal.changes.in_order legal.changes.by_now) in
    omega (arith, count, both, length-map items item_bytes)
