-- What a command read is what was told to it.
use Rattle.std.proofs.Common.{◌≡◌, List, Some, true}
use Rattle.corr_disk.specs.declared.disk.Disk as disks
use Rattle.corr_io.specs.declared.sink.Sink as sinks
use Rattle.corr_io.specs.declared.source.Source as sources
use Rattle.day_model.proofs.laws.Sums.{balances_cancel}
use Rattle.day_model.proofs.laws.Turnovers.{debits_equal_credits}
use Rattle.day_model.specs.Chart.{Chart}
use Rattle.day_model.specs.declared.entry.Entry.{Entry}
use Rattle.jrn_book.specs.Journal.{IsJournal}
use Rattle.jrn_book.specs.Opening.{book}
use Rattle.jrn_book.proofs.laws.Findings.{one_finding}
use Rattle.jrn_file.specs.Reading.{opened_of}
use Rattle.ref_tables.specs.declared.fault.TableName.{TableName}
use Rattle.ref_tables.specs.declared.fault.TableName.TheVariants as names
use Rattle.corr_top.specs.Inputs.{Inputs, chart_in, tables_in}
use Rattle.corr_top.specs.OnDisk.{HoldsJournal}
use Rattle.corr_top.specs.Passing.{IsFine, Passes, table_at, table_fault, table_file}
use Rattle.corr_top.specs.Steps.{Step, Walks}
use Rattle.corr_top.specs.declared.room.Room.{Room}
use Rattle.corr_top.specs.declared.room.Tables.{Tables}
use Rattle.corr_top.specs.declared.status.Status.{Status}
use Rattle.corr_top.specs.promises.Books.{AreBooks, Keeps, Told}
use Rattle.corr_top.proofs.Told.{same_accounts, same_chart, same_tables, small_table, took_all}
use Rattle.corr_top.proofs.Walking.{contained, is_named, named_has}

-- a table that was read and is fine is the one that was told
same_table : {S : Type 0} (source : sources.Ghosts S) (name : TableName) (old new : Tables S) (j i : Inputs) → source.left (table_at name old) ≡ Some (table_file name i)
    → IsFine source (table_at name old) (table_at name new) (table_file name j) (table_fault name j) → table_file name j ≡ table_file name i
same_table source name old new j i told fine =
    took_all source.left source.faults 8388608 (table_at name old) (table_at name new) (table_file name j) (table_file name i) told (small_table name j fine.no_fault) fine.took

-- a list names the tables of banks, currencies and countries
pub record NamesKnown (list : List Step) : Type 0 where
  pub bics : is_named (Step.table names.Bics) list ≡ true
  pub ccys : is_named (Step.table names.Ccys) list ≡ true
  pub countries : is_named (Step.table names.Countries) list ≡ true

module _ {S K D : Type 0} (source : sources.Ghosts S) (sink : sinks.Ghosts K) (disk : disks.Ghosts D) (old new : Room S K D) (s : Status) (j i : Inputs)
    (steps done : List Step) (told : Told source old.tables steps i) (passed : Walks (Passes source disk old new j) done) where
  -- of steps that passed, the table of a name is the one that was told
  pub table_told : (name : TableName) → is_named (Step.table name) steps ≡ true → is_named (Step.table name) done ≡ true → table_file name j ≡ table_file name i
  table_told name named read =
      same_table source name old.tables new.tables j i (told name (contained (Step.table name) steps named)) (named_has (Passes source disk old new j) (Step.table name) done read passed)

  -- so are those of banks, currencies and countries
  pub known_told : NamesKnown steps → NamesKnown done → tables_in j ≡ tables_in i
  known_told named read =
      same_tables j i (table_told names.Bics named.bics read.bics) (table_told names.Ccys named.ccys read.ccys) (table_told names.Countries named.countries read.countries)

  -- and the accounts
  pub chart_told : j.home ≡ i.home → NamesKnown steps → NamesKnown done → is_named (Step.table names.Accounts) steps ≡ true → is_named (Step.table names.Accounts) done ≡ true
      → chart_in j ≡ chart_in i
  chart_told home named read listed at = same_chart j i home (same_accounts j i (known_told named read) (table_told names.Accounts listed at))

-- the books that were opened are those that the disk had
pub record SameBooks (j : Inputs) (chart : Chart) (books : List Entry) : Type 0 where
  pub chart_is : j.chart ≡ chart
  pub books_is : j.history ≡ books

pub same_books : {D : Type 0} (disk : disks.Ghosts D) (d : D) (j : Inputs) (chart : Chart) (books : List Entry) → HoldsJournal disk d j.chart j.history → Keeps disk d chart books → SameBooks j chart books
same_books disk d j chart books holds kept =
    let same = one_finding (opened_of (disk.reads d)) (book j.chart j.history) (book chart books) (holds.journal, holds.stands kept.told) (kept.sound.journal, kept.reads) in
    record { chart_is = cc; books_is = cc }

-- a journal is sound books
pub sound_books : (chart : Chart) (books : List Entry) → IsJournal chart books → AreBooks chart books
sound_books chart books journal = record {
  journal = journal;
  even = debits_equal_credits chart books journal.legal;
  cancel = balances_cancel chart books journal.book journal.legal;
}
