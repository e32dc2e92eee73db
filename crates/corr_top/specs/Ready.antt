-- Sources, disks and journals with which nothing is wrong.
use Rattle.std.specs.Prelude.{ℕ, ◌≡◌, ◌+◌, ◌≤◌, IsTrue, List, length, Some, sum_by}
use Rattle.corr_disk.specs.declared.disk.Disk as disks
use Rattle.corr_disk.specs.Disk.{most_disk_bytes}
use Rattle.corr_io.specs.declared.source.Source as sources
use Rattle.corr_text.specs.Faults.{Rose}
use Rattle.day_model.specs.declared.entry.Entry.{Entry}
use Rattle.day_model.specs.declared.pay.Pay.{Pay}
use Rattle.day_model.specs.Chart.{Chart}
use Rattle.day_model.specs.Log.{most_entries}
use Rattle.jrn_book.specs.Journal.{file_of as book_file_of}
use Rattle.jrn_book.specs.Room.{longest_record}

-- a source told these bytes, and did not fail
pub record TellsAll {S : Type 0} (source : sources.Ghosts S) (old new : S) (bytes : List ℕ) : Type 0 where
  pub told : source.left old ≡ Some bytes
  pub sound : Rose (source.faults old) (source.faults new) → ⊥

-- a disk tells its bytes, and did not fail
pub record IsSure {D : Type 0} (disk : disks.Ghosts D) (old new : D) : Type 0 where
  pub told : IsTrue (disk.honest old)
  pub sound : Rose (disk.faults old) (disk.faults new) → ⊥

-- The journal has room for these pays: with them it has at most 100,000 entries, and the file of the history, with the longest
-- record of each of them, has at most 2^30 bytes.
pub record HasRoomForAll (chart : Chart) (history : List Entry) (pays : List Pay) : Type 0 where
  pub entries : length history + length pays ≤ most_entries
  pub bytes : length (book_file_of chart history) + sum_by (λ pay. longest_record pay + 5) pays ≤ most_disk_bytes
