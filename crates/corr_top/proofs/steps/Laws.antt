-- What a step brings to the proofs about commands.
use Rattle.std.proofs.Common.{◌≡◌, List, false, length, refl}
use Rattle.corr_disk.specs.declared.disk.Disk as disks
use Rattle.corr_io.specs.declared.source.Source as sources
use Rattle.day_model.specs.Chart.{AreBy}
use Rattle.ref_tables.specs.declared.fault.TableName.TheVariants as names
use Rattle.corr_top.specs.declared.account_words.AccountChange.{AccountChange}
use Rattle.corr_top.specs.declared.account_words.AccountChange.TheVariants.{Open, Limit}
use Rattle.corr_top.specs.declared.room.Room.{Room}
use Rattle.corr_top.specs.declared.status.Status.{Status}
use Rattle.corr_top.specs.declared.status.Status.TheVariants as status
use Rattle.corr_top.specs.Inputs.{Inputs, tables_in}
use Rattle.corr_top.specs.Passing.{IsReady, Passes, StopsAt, table_file}
use Rattle.corr_top.specs.promises.Books.{writes}
use Rattle.corr_top.specs.Status.{HasLine}
use Rattle.corr_top.specs.Steps.{Step, Walks}
use Rattle.corr_top.proofs.Told.{same_tables}
use Rattle.corr_top.proofs.Walking.{Has, walked}

-- ---- what was read up to a step is what was told, and changes of accounts came by then

pub record SameJournal (j i : Inputs) : Type 0 where
  pub chart : j.chart ≡ i.chart
  pub history : j.history ≡ i.history
  pub by_now : AreBy (length i.history) i.chart

abbrev pub Agrees : Inputs → Inputs → Step → Type 0
Agrees j i (Step.table name) = table_file name j ≡ table_file name i
Agrees j i Step.open_journal = SameJournal j i
Agrees j i Step.messages = j.cut ≡ i.cut
Agrees j i Step.received = j.cut ≡ i.cut
Agrees j i Step.old_journal = SameJournal j i
Agrees j i Step.begin = j.held ≡ i.held
Agrees j i Step.packets = j.packets ≡ i.packets
Agrees j i _ = Unit {0}

-- ---- the steps that a step needs before it

-- the tables of banks, currencies and countries are passed
pub record HasThree (done : List Step) : Type 0 where
  pub bics : Has done (Step.table names.Bics)
  pub ccys : Has done (Step.table names.Ccys)
  pub countries : Has done (Step.table names.Countries)

-- what is read ahead of the messages of a day is passed
pub record HasBooked (done : List Step) : Type 0 where
  pub three : HasThree done
  pub ssi : Has done (Step.table names.Ssi)
  pub charges : Has done (Step.table names.Charges)
  pub journal : Has done Step.open_journal

-- the tables under which a row is read are passed; limits have no row
abbrev pub HasRowTables : AccountChange → List Step → Type 0
HasRowTables (Open words) done = Has done (Step.table names.Bics) × Has done (Step.table names.Ccys)
HasRowTables (Limit id ends) done = Unit {0}

abbrev pub IsAfter : AccountChange → List Step → Step → Type 0
IsAfter change done (Step.table names.Accounts) = HasThree done
IsAfter change done (Step.table names.Ssi) = HasThree done
IsAfter change done (Step.table names.Charges) = HasThree done
IsAfter change done Step.sums = HasThree done × Has done (Step.table names.Accounts)
IsAfter change done Step.day = Has done Step.open_journal
IsAfter change done Step.serve = HasBooked done
IsAfter change done Step.change = Has done Step.open_journal × HasRowTables change done
IsAfter change done Step.copy = Has done Step.old_journal
IsAfter change done Step.make_return = Has done Step.open_journal
IsAfter change done Step.book_return = Has done Step.open_journal
IsAfter change done Step.take = Has done Step.begin × Has done Step.packets
IsAfter change done _ = Unit {0}

pub same_three : (j i : Inputs) (done : List Step) → HasThree done → Walks (Agrees j i) done → tables_in j ≡ tables_in i
same_three j i done has all =
    same_tables j i (walked (Agrees j i) done (Step.table names.Bics) all has.bics) (walked (Agrees j i) done (Step.table names.Ccys) all has.ccys)
    (walked (Agrees j i) done (Step.table names.Countries) all has.countries)

-- ---- the laws of a step

-- a line can tell it, and it isn't one at which something was written
pub record IsStop (s : Status) : Type 0 where
  pub line : HasLine s
  pub silent : writes s ≡ false

pub memory_stop : IsStop status.Memory
memory_stop = record { line = tt; silent = refl }

-- the objects of a room, as they were and as they are; what a command read of them, and what was told of them, where the words say the same
pub record Setting : Type 1 where
  pub S : Type 0
  pub K : Type 0
  pub D : Type 0
  pub source : sources.Ghosts S
  pub disk : disks.Ghosts D
  pub old : Room S K D
  pub new : Room S K D
  pub read : Inputs
  pub told : Inputs
  pub home : read.home ≡ told.home
  pub day : read.day ≡ told.day
  pub change : read.change ≡ told.change
  pub place : read.place ≡ told.place

-- What is read at a step with which nothing is wrong is what was told; where it stops, it wants memory; and a line can tell why it stops.
pub record StepLaws (step : Step) : Type 1 where
  pub agrees : (x : Setting) → IsReady x.source x.disk x.old x.new x.told step → Passes x.source x.disk x.old x.new x.read step → Agrees x.read x.told step
  pub memory : (x : Setting) (s : Status) (done : List Step) → IsAfter x.told.change done step → Walks (Agrees x.read x.told) done
      → IsReady x.source x.disk x.old x.new x.told step → StopsAt x.source x.disk x.old x.new x.read s step → s ≡ status.Memory
  pub line : (x : Setting) (s : Status) → StopsAt x.source x.disk x.old x.new x.read s step → IsStop s
