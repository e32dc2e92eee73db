-- The bytes of a journal, as accounts that change and a history.
use Rattle.std.specs.Prelude.{◌⊎◌, ℕ, All, List, ◌∷◌, ◌++◌, length, map}
use Rattle.corr_ids.specs.declared.day.Day.{Day}
use Rattle.day_model.specs.declared.change.Item.TheVariants.{Changed}
use Rattle.day_model.specs.declared.change.What.{What}
use Rattle.day_model.specs.declared.pay.Pay.{Pay}
use Rattle.day_model.specs.declared.entry.Entry.{Entry}
use Rattle.day_model.specs.Chart.{Chart, HasCode, IsChart, accounts_of, bare, with_change}
use Rattle.day_model.specs.Items.{items_of}
use Rattle.day_model.specs.Legal.{IsLegal}
use Rattle.day_model.specs.Next.{next_history}
use Rattle.jrn_file.specs.Journal.{journal_bytes, StandsFor}
use Rattle.jrn_codec.specs.Header.{IsHead, head_bytes}
use Rattle.jrn_codec.specs.Items.{item_bytes}
use Rattle.jrn_codec.specs.Record.{IsEntry}
use Rattle.jrn_book.specs.declared.version.Version.{Version}
use Rattle.jrn_book.specs.declared.version.Version.TheVariants.{Two}
use Rattle.jrn_book.specs.Versions.{HasBytes, bytes_in, head_in}

-- the records of a history and of the changes among its entries, in their order
abbrev pub item_records : Chart → List Entry → List (List ℕ)
item_records chart history = map item_bytes (items_of chart history)

-- the header of the accounts that the book begins with, and these records
abbrev pub all_records : Chart → List Entry → List (List ℕ)
all_records chart history = head_bytes chart ∷ item_records chart history

-- the same in a version
abbrev pub all_records_in : Version → Chart → List Entry → List (List ℕ)
all_records_in version chart history = head_in version chart ∷ map (bytes_in version) (items_of chart history)

-- the file of these accounts and this history
abbrev pub file_of : Chart → List Entry → List ℕ
file_of chart history = journal_bytes (head_bytes chart) (item_records chart history)

-- accounts and a history that a journal of a version may hold: the accounts are those of a book, those that it begins with have a
-- header, its changes and entries have records, and all is legal
pub record IsJournalIn (version : Version) (chart : Chart) (history : List Entry) : Type 0 where
  pub head : IsHead (bare chart)
  pub book : IsChart chart
  pub codes : All HasCode (accounts_of chart)
  pub changes : All (λ change. HasBytes version (Changed change.what)) chart.changes
  pub entries : All IsEntry history
  pub legal : IsLegal chart history

-- accounts and a history that a journal may hold
abbrev pub IsJournal : Chart → List Entry → Type 0
IsJournal chart history = IsJournalIn Two chart history

-- the bytes begin with the file of these accounts and this history, but for its open gates
abbrev pub StandsForBook : List ℕ → Chart → List Entry → Type 0
StandsForBook image chart history = StandsFor image (head_bytes chart) (item_records chart history)

-- the bytes stand for the history, or for it with all of these entries more
abbrev pub IsWithOrWithout : Chart → List Entry → List Entry → List ℕ → Type 0
IsWithOrWithout chart history entries image = StandsForBook image chart history ⊎ StandsForBook image chart (history ++ entries)

-- the bytes stand for the history, or for the one after this pay on this day
abbrev pub IsBeforeOrNext : Chart → List Entry → Pay → Day → List ℕ → Type 0
IsBeforeOrNext chart history pay day image =
    StandsForBook image chart history ⊎ StandsForBook image chart (next_history chart history pay day)

-- the bytes stand for the accounts and the history, or for them with this change more
abbrev pub IsBeforeOrChanged : Chart → List Entry → What → List ℕ → Type 0
IsBeforeOrChanged chart history what image =
    StandsForBook image chart history ⊎ StandsForBook image (with_change chart (length history) what) history
