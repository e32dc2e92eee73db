-- The records that a follower holds.
use Rattle.std.specs.Prelude.{◌≡◌, ℕ, Bool, IsTrue, List, [], ◌∷◌, length}
use Rattle.corr_disk.specs.Disk.{Only}
use Rattle.day_model.specs.declared.change.Item.{Item}
use Rattle.day_model.specs.declared.entry.Entry.{Entry}
use Rattle.day_model.specs.Chart.{Chart}
use Rattle.jrn_file.specs.Journal.{StandsFor}
use Rattle.jrn_file.specs.Making.{IsUnmade}
use Rattle.jrn_codec.specs.Header.{IsHead, head_bytes}
use Rattle.jrn_codec.specs.Items.{item_bytes}
use Rattle.jrn_book.specs.declared.version.Version.TheVariants.{Two}
use Rattle.jrn_book.specs.Journal.{IsJournal, all_records}
use Rattle.jrn_book.specs.Opening.{IsNextOf}
use Rattle.jrn_book.specs.Reading.{chart_with, entries_with}

-- what a follower holds: no record, or those of accounts and a history
pub data Held : Type 0 where
  nothing : Held
  journal : (chart : Chart) (history : List Entry) → Held

-- the records: the header, then the items
abbrev pub records_of : Held → List (List ℕ)
records_of nothing = []
records_of (journal chart history) = all_records chart history

-- how many they are, which is the number of the last one
abbrev pub count_of : Held → ℕ
count_of held = length (records_of held)

-- the entries among them
abbrev pub entries_of : Held → List Entry
entries_of nothing = []
entries_of (journal chart history) = history

-- they are those of a journal
abbrev pub IsHeld : Held → Type 0
IsHeld nothing = Unit {0}
IsHeld (journal chart history) = IsJournal chart history

-- the bytes stand for these records; for none where a journal may be made
abbrev pub StandsForAll : List (List ℕ) → List ℕ → Type 0
StandsForAll [] image = IsUnmade image
StandsForAll (head ∷ records) image = StandsFor image head records

-- and for what is held
abbrev pub StandsForHeld : Held → List ℕ → Type 0
StandsForHeld held image = StandsForAll (records_of held) image

-- With this record more, that is held: after none the header of accounts, and later the record of an item that may stand next.
abbrev pub ComesNext : Held → List ℕ → Held → Type 0
ComesNext held r nothing = ⊥
ComesNext nothing r (journal chart history) = IsHead chart × (r ≡ head_bytes chart) × (history ≡ [])
ComesNext (journal chart history) r (journal new more) =
    (item : Item) × IsNextOf Two chart history item × (r ≡ item_bytes item) × (new ≡ chart_with chart history item) × (more ≡ entries_with history item)

-- the record may stand next
abbrev pub MayComeNext : Held → List ℕ → Type 0
MayComeNext held r = (next : Held) × ComesNext held r next

-- what is held is on the disk, and a crash leaves nothing else
pub record IsOnDisk {D : Type 0} (honest : D → Bool) (reads : D → List ℕ) (may_leave : D → List ℕ → Type 0) (disk : D) (held : Held) : Type 0 where
  pub stands : IsTrue (honest disk) → StandsForHeld held (reads disk)
  pub alone : IsTrue (honest disk) → Only (reads disk) (may_leave disk)
