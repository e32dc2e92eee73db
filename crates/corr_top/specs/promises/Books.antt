-- Books that stay on a disk, what was told to a command, what it wrote, and what a crash in its midst leaves.
use Rattle.std.specs.Prelude.{ℕ, ◌≡◌, ◌⊎◌, Bool, true, false, IsTrue, List, [], take, Some}
use Rattle.std.specs.List.{Contains}
use Rattle.std.specs.Io.KnownBytes.{Appends}
use Rattle.corr_disk.specs.declared.disk.Disk as disks
use Rattle.corr_io.specs.declared.sink.Sink as sinks
use Rattle.corr_io.specs.declared.source.Source as sources
use Rattle.day_model.specs.Chart.{Chart}
use Rattle.day_model.specs.Laws.{BalancesCancel, DebitsEqualCredits}
use Rattle.day_model.specs.declared.entry.Entry.{Entry}
use Rattle.jrn_book.specs.Journal.{IsJournal, StandsForBook}
use Rattle.ref_tables.specs.declared.fault.TableName.{TableName}
use Rattle.corr_top.specs.declared.room.Room.{Room}
use Rattle.corr_top.specs.declared.room.Tables.{Tables}
use Rattle.corr_top.specs.declared.status.Status.{Status}
use Rattle.corr_top.specs.declared.status.Status.TheVariants.{Done, WriteFault}
use Rattle.corr_top.specs.Inputs.{Inputs}
use Rattle.corr_top.specs.Passing.{table_at, table_file}
use Rattle.corr_top.specs.Steps.{Step}

-- sound books: each reference once, each entry booked exactly where funds suffice; debits equal credits, balances sum to 0
pub record AreBooks (chart : Chart) (books : List Entry) : Type 0 where
  pub journal : IsJournal chart books
  pub even : DebitsEqualCredits chart books
  pub cancel : BalancesCancel chart books

-- the statuses at which something was written
abbrev pub writes : Status → Bool
writes Done = true
writes (WriteFault then now) = true
writes _ = false

module _ {D : Type 0} (disk : disks.Ghosts D) where
  -- a disk that tells its bytes: a read gives these books, and so does whatever a crash leaves
  pub record Keeps (d : D) (chart : Chart) (books : List Entry) : Type 0 where
    pub told : IsTrue (disk.honest d)
    pub sound : AreBooks chart books
    pub reads : StandsForBook (disk.reads d) chart books
    pub crash : (image : List ℕ) → disk.may_leave d image → StandsForBook image chart books

  -- a crash at any moment between these two leaves bytes that have P, at the second too
  abbrev pub AtEachMoment : D → D → (List ℕ → Type 0) → Type 0
  AtEachMoment old new P = (image : List ℕ) → disk.left_since new (disk.moment old) image → P image

module _ {S : Type 0} (source : sources.Ghosts S) where
  -- the tables that these steps read told these bytes when the command began
  abbrev pub Told : Tables S → List Step → Inputs → Type 0
  Told old steps i = (name : TableName) → Contains steps (Step.table name) → source.left (table_at name old) ≡ Some (table_file name i)

module _ {S K D : Type 0} (sink : sinks.Ghosts K) (old new : Room S K D) where
  -- Done: just these texts were received; WriteFault: a front part of the report, or all of it and a front part of what is sent
  abbrev pub Wrote : Status → List ℕ → List ℕ → Type 0
  Wrote Done report out = Appends (sink.held old.report) (sink.held new.report) report × Appends (sink.held old.out) (sink.held new.out) out
  Wrote (WriteFault then now) report out =
      (n : ℕ) × (m : ℕ) × Appends (sink.held old.report) (sink.held new.report) (take n report)
      × Appends (sink.held old.out) (sink.held new.out) (take m out) × ((take m out ≡ []) ⊎ (take n report ≡ report))
  Wrote _ report out = ⊥
