-- The commands `run` and `batch`: the messages of a file are answered on a day.
use Rattle.std.specs.Prelude.{ℕ, ◌≡◌, ◌+◌, List, [], ◌∷◌, length}
use Rattle.corr_disk.specs.declared.disk.Disk as disks
use Rattle.corr_ids.specs.declared.day.Day.{Day}
use Rattle.jrn_book.specs.Journal.{IsJournal}
use Rattle.corr_report.specs.Report.{report_of}
use Rattle.ref_tables.specs.declared.fault.TableName.TheVariants as names
use Rattle.corr_top.specs.Inputs.{Inputs, new_in, replies_of, tables_in}
use Rattle.corr_top.specs.Meaning.{Meaning}
use Rattle.corr_top.specs.OnDisk.{HasNotFailed, IsOnDisk, LeavesMidway}
use Rattle.corr_top.specs.Origin.{AreSentValid}
use Rattle.corr_top.specs.Out.{sent_from}
use Rattle.corr_top.specs.Steps.{Step}

-- the tables of banks, currencies, countries, instructions and charges, the journal, the day, and the serving of the messages of the message
-- file while it is read
abbrev pub run_steps : List Step
run_steps =
    Step.table names.Bics ∷ Step.table names.Ccys ∷ Step.table names.Countries ∷ Step.table names.Ssi ∷ Step.table names.Charges
    ∷ Step.open_journal ∷ Step.day ∷ Step.serve ∷ []

-- its report: of the history that one thread makes of the journal's and the entered pays, in the order in which they were
-- entered, and of the reply to each message
unfoldable pub run_report : Inputs → List ℕ
run_report i = report_of i.chart (new_in i) (replies_of i)

-- what it sends: the outgoing messages of the entries that were added, each followed by `$`
unfoldable pub run_out : Inputs → List ℕ
run_out i = sent_from i.chart (length i.history + 1) (new_in i)

-- what it leaves: that history, in a journal that may be opened again, and nothing else; a crash at each moment of the run leaves a
-- front part of it; at most so many entries come under one sync
pub record RunLeaves {D : Type 0} (disk : disks.Ghosts D) (most : ℕ) (old new : D) (i : Inputs) : Type 0 where
  pub sure : HasNotFailed disk old new
  pub entered : IsOnDisk disk new i.chart (new_in i)
  pub journal : IsJournal i.chart (new_in i)
  pub any_moment : LeavesMidway disk old new i.chart i.history (new_in i) i.day most

-- it is of the day, the number of workers and the number of entries under one sync that the words name, which is one in `run`; each message that it sends passes the tests of a sent message under
-- the tables that it read
abbrev pub run_meaning : Day → ℕ → ℕ → Meaning
run_meaning day workers entries = record {
  is_for = λ i. (i.day ≡ day) × (i.workers ≡ workers) × (i.entries ≡ entries);
  steps = run_steps;
  report = run_report;
  out = run_out;
  valid = λ i. AreSentValid (tables_in i) i.chart (length i.history + 1) (new_in i);
  leaves = λ D disk old new i. RunLeaves disk entries old new i;
}
