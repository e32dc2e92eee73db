-- What `open-account`, `set-limits` and `migrate` promise.
use Rattle.std.specs.Prelude.{ℕ, ◌≡◌, ◌⊎◌, true, false, IsTrue, List, Some, None}
use Rattle.std.specs.List.{Contains}
use Rattle.std.specs.Option.{option_map}
use Rattle.corr_disk.specs.Disk.{Only}
use Rattle.corr_disk.specs.declared.disk.Disk as disks
use Rattle.corr_io.specs.declared.source.Source as sources
use Rattle.corr_text.specs.Faults.{Rose}
use Rattle.day_model.specs.Chart.{Chart}
use Rattle.day_model.specs.declared.entry.Entry.{Entry}
use Rattle.jrn_book.specs.Journal.{IsBeforeOrChanged, IsJournalIn, StandsForBook}
use Rattle.jrn_book.specs.declared.version.Version.TheVariants.{One}
use Rattle.jrn_file.specs.Making.{IsOther, IsUnmade}
use Rattle.ref_tables.specs.declared.fault.TableName.{TableName}
use Rattle.corr_top.specs.declared.room.Room.{Room}
use Rattle.corr_top.specs.declared.room.Tables.{Tables}
use Rattle.corr_top.specs.declared.status.Status.{Status}
use Rattle.corr_top.specs.declared.status.Status.TheVariants.{Memory}
use Rattle.corr_top.specs.Change.{change_steps}
use Rattle.corr_top.specs.Changed.{IsRefusedFor, changed_in, lent_in, row_fault, what_of}
use Rattle.corr_top.specs.Copied.{OnSecond, StandsForOld}
use Rattle.corr_top.specs.Inputs.{Inputs}
use Rattle.corr_top.specs.OnDisk.{IsUnwritten}
use Rattle.corr_top.specs.Passing.{table_at, table_fault}
use Rattle.corr_top.specs.Steps.{Step}
use Rattle.corr_top.specs.promises.Books.{AtEachMoment, Keeps, writes}

module _ {S : Type 0} (source : sources.Ghosts S) where
  -- the sources of the tables that these steps read didn't fail, and these tables are right
  abbrev pub AreRight : Tables S → Tables S → List Step → Inputs → Type 0
  AreRight old new steps i = (name : TableName) → Contains steps (Step.table name)
      → (Rose (source.faults (table_at name old)) (source.faults (table_at name new)) → ⊥) × (table_fault name i ≡ None)

module _ {D : Type 0} (disk : disks.Ghosts D) where
  -- the journal of version 1 of these books stands on a disk that tells its bytes
  pub record IsOldBooks (d : D) (chart : Chart) (books : List Entry) : Type 0 where
    pub told : IsTrue (disk.honest d)
    pub journal : IsJournalIn One chart books
    pub reads : StandsForOld (disk.reads d) chart books

module _ {S K D : Type 0} (source : sources.Ghosts S) (disk : disks.Ghosts D) (old new : Room S K D) (s : Status) where
  -- open-account and set-limits, whatever the status: nothing is written to the sinks; done, the books have this change of their accounts more and nothing else; a crash at
  -- any moment leaves the books before or with it; refused, where no call of the disk failed and memory didn't run out, they are as they were, and the
  -- status is the first reason against it, where its tables are right
  pub record ChangePromise (i : Inputs) : Type 0 where
    pub done : writes s ≡ true → Keeps disk new.disk (changed_in i) i.history
    pub moments : AtEachMoment disk old.disk new.disk (IsBeforeOrChanged i.chart i.history (what_of i))
    pub quiet : (new.report ≡ old.report) × (new.out ≡ old.out)
    pub refused : writes s ≡ false → (Rose (disk.faults old.disk) (disk.faults new.disk) → ⊥) → (s ≡ Memory → ⊥) → Keeps disk new.disk i.chart i.history
    pub reason : writes s ≡ false → (Rose (disk.faults old.disk) (disk.faults new.disk) → ⊥) → (s ≡ Memory → ⊥) → AreRight source old.tables new.tables (change_steps i.change) i
        → IsRefusedFor i.chart i.history (row_fault i.chart (lent_in i) i.change) (what_of i) s

  -- migrate, whatever the status: nothing is written to the first disk and to the sinks; the second tells its bytes as it did, has the books of
  -- the journal of version 1 where it is done, at each moment nothing made yet or all of them where it could be made, and what it had where
  -- something else stands there; where it is refused, and no call of the second disk failed, it has what it had
  pub record MigratePromise : Type 0 where
    pub unwritten : IsUnwritten disk old.disk new.disk
    pub quiet : (new.report ≡ old.report) × (new.out ≡ old.out)
    pub honest : option_map disk.honest new.disk2 ≡ option_map disk.honest old.disk2
    pub done : writes s ≡ true → (chart : Chart) (books : List Entry) → IsOldBooks disk old.disk chart books
        → OnSecond (λ from to. IsTrue (disk.honest from) → Keeps disk to chart books) old.disk2 new.disk2
    pub moments : (chart : Chart) (books : List Entry) → IsOldBooks disk old.disk chart books → (from to : D) → old.disk2 ≡ Some from → new.disk2 ≡ Some to
        → IsTrue (disk.honest from) → Only (disk.reads from) (disk.may_leave from) → IsUnmade (disk.reads from)
        → (image : List ℕ) → disk.left_since to (disk.moment from) image → IsUnmade image ⊎ StandsForBook image chart books
    pub other : (from : D) (first : ℕ) → old.disk2 ≡ Some from → IsTrue (disk.honest from) → IsOther (disk.reads from) first
        → (to : D) × (new.disk2 ≡ Some to) × IsUnwritten disk from to
    pub refused : writes s ≡ false → (s ≡ Memory → ⊥) → (from to : D) → old.disk2 ≡ Some from → new.disk2 ≡ Some to → IsTrue (disk.honest from)
        → (Rose (disk.faults from) (disk.faults to) → ⊥) → IsUnwritten disk from to
