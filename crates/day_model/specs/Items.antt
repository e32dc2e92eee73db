-- Entries and changes in one order, as a journal has them.
use Rattle.std.specs.Prelude.{◌≡◌, ℕ, ◌+◌, IsTrue, List, [], ◌∷◌, ◌++◌, length, map}
use Rattle.day_model.specs.declared.change.Change.{Change}
use Rattle.day_model.specs.declared.change.What.{What}
use Rattle.day_model.specs.declared.change.Item.{Item}
use Rattle.day_model.specs.declared.change.Item.TheVariants.{Entered, Changed}
use Rattle.day_model.specs.declared.entry.Entry.{Entry}
use Rattle.day_model.specs.Changes.{are_in_order, just_then}
use Rattle.day_model.specs.Chart.{AreBy, Chart, with_change}
use Rattle.day_model.specs.Legal.{IsLegal}

-- changes as items
abbrev pub changed_items : List Change → List Item
changed_items changes = map (λ change. Changed change.what) changes

-- the entries from the one after the first k on, each change directly after the entries before it
abbrev pub items_from : ℕ → List Change → List Entry → List Item
items_from k changes [] = changed_items (just_then k changes)
items_from k changes (entry ∷ entries) = changed_items (just_then k changes) ++ Entered entry ∷ items_from (k + 1) changes entries

-- the items of a book: its entries, and its changes among them
abbrev pub items_of : Chart → List Entry → List Item
items_of chart entries = items_from 0 chart.changes entries

-- an item may come next: with it the history is legal
abbrev pub IsNextItem : Chart → List Entry → Item → Type 0
IsNextItem chart entries (Entered entry) = IsLegal chart (entries ++ entry ∷ [])
IsNextItem chart entries (Changed what) = IsLegal (with_change chart (length entries) what) entries

-- the changes and the entries that items were read into
pub record Replayed : Type 0 where
  pub changes : List Change
  pub entries : List Entry

-- one item more: a change came after as many entries as were read before it
abbrev pub replayed_with : Replayed → Item → Replayed
replayed_with r (Entered entry) = record r { entries = r.entries ++ entry ∷ [] }
replayed_with r (Changed what) = record r { changes = r.changes ++ record { after = length r.entries; what = what } ∷ [] }

-- items read one after another
abbrev pub replay : Replayed → List Item → Replayed
replay r [] = r
replay r (item ∷ items) = replay (replayed_with r item) items

-- an entry after all changes stands last
abbrev pub EntryStandsLast : Type 0
EntryStandsLast = (chart : Chart) (entries : List Entry) (entry : Entry) → AreBy (length entries) chart →
    items_of chart (entries ++ entry ∷ []) ≡ items_of chart entries ++ Entered entry ∷ []

-- a change after all entries stands last
abbrev pub ChangeStandsLast : Type 0
ChangeStandsLast = (chart : Chart) (entries : List Entry) (what : What) →
    items_of (with_change chart (length entries) what) entries ≡ items_of chart entries ++ Changed what ∷ []

-- the items of a book read back into its changes, which are in order, and its entries
abbrev pub ItemsReadBack : Type 0
ItemsReadBack = (chart : Chart) (entries : List Entry) → IsTrue (are_in_order chart.changes) → AreBy (length entries) chart →
    replay (record { changes = []; entries = [] }) (items_of chart entries) ≡ record { changes = chart.changes; entries = entries }
