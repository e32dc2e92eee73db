-- Entries that pays of a batch become before they are on the disk.
use Rattle.std.specs.Prelude.{◌≡◌, ◌⊎◌, ℕ, ◌+◌, ◌≤◌, All, false, List, [], ◌∷◌, ◌++◌, length, map, slice_get, sum_by, Some, Ok}
use Rattle.std.specs.List.{list_any}
use Rattle.corr_disk.specs.Disk.{most_disk_bytes}
use Rattle.corr_ids.specs.declared.day.Day.{Day}
use Rattle.day_model.specs.declared.pay.Pay.{Pay}
use Rattle.day_model.specs.declared.entry.Entry.{Entry}
use Rattle.day_model.specs.declared.entry.Outcome.{Outcome}
use Rattle.day_model.specs.Chart.{Chart, accounts_of}
use Rattle.day_model.specs.Legal.{IsLegal}
use Rattle.day_model.specs.Totals.{HasTotals, Pair}
use Rattle.jrn_file.specs.Journal.{after_gates}
use Rattle.jrn_codec.specs.Record.{IsEntry, entry_bytes}
use Rattle.jrn_book.specs.Answers.{Answer}
use Rattle.jrn_book.specs.declared.answer.Committed.TheVariants.{New}
use Rattle.jrn_book.specs.Batches.{is_new}
use Rattle.jrn_book.specs.Index.{references_of}
use Rattle.jrn_book.specs.Journal.{file_of}
use Rattle.jrn_book.specs.Room.{longest_record}

-- the records of entries
abbrev pub records_of : List Entry → List (List ℕ)
records_of entries = map entry_bytes entries

-- the records, each after an open gate and its length
abbrev pub gated_records : List Entry → List ℕ
gated_records entries = after_gates (map (λ r. (1, r)) (records_of entries))

-- Entries that would stand next in a history, all of a day; their records after open gates; the references and the totals with them.
-- With them the file has room.
pub record IsDrafted (chart : Chart) (history : List Entry) (day : Day) (entries : List Entry) (frames : List ℕ) (references : List (List ℕ)) (pairs : List Pair) : Type 0 where
  pub legal : IsLegal chart (history ++ entries)
  pub days : All (λ e. e.day ≡ day) entries
  pub written : All IsEntry entries
  pub frames_are : frames ≡ gated_records entries
  pub references_are : references ≡ references_of (history ++ entries)
  pub totals : HasTotals pairs (length (accounts_of chart)) (history ++ entries)
  pub fits : (entries ≡ []) ⊎ (length (file_of chart (history ++ entries)) ≤ most_disk_bytes)

-- at most an entry of this pay was added
abbrev pub AddsOnly : List Entry → Pay → List Entry → Type 0
AddsOnly old pay new = (new ≡ old) ⊎ ((e : Entry) × (new ≡ old ++ e ∷ []) × (e.pay ≡ pay))

-- the pay of each of these entries is one of these pays
abbrev pub AreFrom : List Entry → List Pay → Type 0
AreFrom entries pays = (k : ℕ) (e : Entry) → slice_get entries k ≡ Some e → (j : ℕ) × (slice_get pays j ≡ Some e.pay)

-- the bytes that the record of a pay takes at most, with its gate and its length
abbrev pub room_for : Pay → ℕ
room_for pay = longest_record pay + 5

-- those of pays
abbrev pub rooms_for : List Pay → ℕ
rooms_for pays = sum_by room_for pays

-- the first of these answers that says that its pay was entered
pub record IsFirstNew (answers front : List Answer) (rest : List Answer) : Type 0 where
  pub place : ℕ
  pub outcome : Outcome
  pub is : answers ≡ front ++ Ok (New place outcome) ∷ rest
  pub none : list_any is_new front ≡ false
