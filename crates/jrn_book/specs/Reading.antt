-- Records that are read one after another as accounts and a history.
use Rattle.std.specs.Prelude.{◌≡◌, ℕ, List, [], ◌∷◌, ◌++◌, length, Option, Some, Result, Ok, Err}
use Rattle.day_model.specs.declared.change.Item.{Item}
use Rattle.day_model.specs.declared.change.Item.TheVariants.{Entered, Changed}
use Rattle.day_model.specs.declared.change.What.{What}
use Rattle.day_model.specs.declared.entry.Entry.{Entry}
use Rattle.day_model.specs.Chart.{Chart, with_change}
use Rattle.day_model.specs.Log.{Log}
use Rattle.jrn_file.specs.declared.fault.OpenFault.{OpenFault}
use Rattle.jrn_file.specs.declared.file.JFile.{JFile}
use Rattle.jrn_codec.specs.declared.fault.EntryFault.{EntryFault}
use Rattle.jrn_codec.specs.declared.fault.EntryFault.TheVariants as entry_fault
use Rattle.jrn_book.specs.declared.past.Ready.{Ready}
use Rattle.jrn_book.specs.declared.past.Ready.TheVariants as ready
use Rattle.jrn_book.specs.declared.version.Version.{Version}
use Rattle.jrn_book.specs.declared.version.Version.TheVariants.{Two}
use Rattle.jrn_book.specs.Opening.{Finding, IsNextOf, IsNoNext, book, found_by}
use Rattle.jrn_book.specs.Versions.{bytes_in}

-- what was read: accounts with their changes so far, and entries; and for how many items more there is room
pub record Read : Type 0 where
  pub accounts : Chart
  pub history : List Entry
  pub spare : ℕ

-- accounts and entries with one item more
abbrev pub chart_with : Chart → List Entry → Item → Chart
chart_with chart history (Entered entry) = chart
chart_with chart history (Changed what) = with_change chart (length history) what

-- the entries of these
abbrev pub entries_with : List Entry → Item → List Entry
entries_with history (Entered entry) = history ++ entry ∷ []
entries_with history (Changed what) = history

-- the accounts and the entries are those of before with an item more
pub record GrowsBy (old : Read) (item : Item) (new : Read) : Type 0 where
  pub accounts : new.accounts ≡ chart_with old.accounts old.history item
  pub history : new.history ≡ entries_with old.history item

-- the accounts and the entries are those of before
pub record IsSameRead (old new : Read) : Type 0 where
  pub accounts : new.accounts ≡ old.accounts
  pub history : new.history ≡ old.history

-- what an item is where its memory was taken: the entry, or the accounts with the change
abbrev pub IsReadyFor : Read → Item → Ready → Type 0
IsReadyFor old (Entered entry) (ready.Entry e) = e ≡ entry
IsReadyFor old (Entered entry) (ready.Accounts chart) = ⊥
IsReadyFor old (Changed what) (ready.Entry e) = ⊥
IsReadyFor old (Changed what) (ready.Accounts chart) = chart ≡ with_change old.accounts (length old.history) what

-- such a thing is of an item that may stand next
abbrev pub IsReady : Read → Ready → Type 0
IsReady old (ready.Entry e) = IsNextOf Two old.accounts old.history (Entered e)
IsReady old (ready.Accounts chart) =
    (what : What) × IsNextOf Two old.accounts old.history (Changed what) × (chart ≡ with_change old.accounts (length old.history) what)

-- the next record was read: it is that of an item that may stand next, which is added
pub record IsReadNext (version : Version) (old : Read) (r : List ℕ) (new : Read) : Type 0 where
  pub item : Item
  pub next : IsNextOf version old.accounts old.history item
  pub is : r ≡ bytes_in version item
  pub grows : GrowsBy old item new

-- it is added, or refused and all is as before; out of memory tells nothing
abbrev pub ReadsRecord : Version → Read → List ℕ → Result (Unit {0}) EntryFault → Read → Type 0
ReadsRecord version old r (Ok done) new = IsReadNext version old r new
ReadsRecord version old r (Err entry_fault.NoEntry) new = IsNoNext version old.accounts old.history r × (new ≡ old)
ReadsRecord version old r (Err entry_fault.Memory) new = Unit {0}

-- what a test of a record tells: the item that may stand next, or that there is none; out of memory tells nothing
abbrev pub FitsNext : Version → Read → List ℕ → Result Item EntryFault → Type 0
FitsNext version old r (Ok item) = IsNextOf version old.accounts old.history item × (r ≡ bytes_in version item)
FitsNext version old r (Err entry_fault.NoEntry) = IsNoNext version old.accounts old.history r
FitsNext version old r (Err entry_fault.Memory) = Unit {0}

-- what reading a disk's past says that its bytes are
abbrev pub past_in : {D : Type 0} → Result (Read × JFile D) (D × OpenFault) → Option Finding
past_in (Ok opened) = Some (book opened.0.accounts opened.0.history)
past_in (Err refused) = found_by refused.1

-- what reading a journal of the older version says that its bytes are
abbrev pub old_in : {D : Type 0} → Result (Chart × Log × D) (D × OpenFault) → Option Finding
old_in (Ok opened) = Some (book opened.0 opened.1.entries)
old_in (Err refused) = found_by refused.1
