-- The commands that read the journal and print what it says.
use Rattle.std.specs.Prelude.{ℕ, List, [], ◌∷◌, take}
use Rattle.corr_disk.specs.declared.disk.Disk as disks
use Rattle.corr_report.specs.Bookings.{bookings_of}
use Rattle.day_model.specs.declared.entry.Entry.{Entry}
use Rattle.day_model.specs.Chart.{Chart}
use Rattle.desk_rows.specs.Balances.{balance_rows}
use Rattle.desk_rows.specs.Entries.{entry_rows}
use Rattle.desk_rows.specs.Until.{entries_until}
use Rattle.corr_top.specs.declared.words.Query.{Query}
use Rattle.corr_top.specs.declared.words.Query.TheVariants as query
use Rattle.corr_top.specs.Meaning.{Meaning}
use Rattle.corr_top.specs.OnDisk.{HasNotFailed, IsUnwritten}
use Rattle.corr_top.specs.Out.{sent_from}
use Rattle.corr_top.specs.Ship.{shipped_out}
use Rattle.corr_top.specs.Statements.{AreStatements, sent_statements}
use Rattle.corr_top.specs.Steps.{Step}

-- the journal alone
abbrev pub query_steps : List Step
query_steps = Step.open_journal ∷ []

-- `bookings` reports a line for each entry, `balances` a row for each account after the entries up to a day, or after all, and
-- `entries` a row for each entry of some days
abbrev pub query_report : Query → Chart → List Entry → List ℕ
query_report (query.Send from until) chart history = []
query_report (query.Ship from until) chart history = []
query_report query.Bookings chart history = bookings_of chart history
query_report (query.Statements owners day) chart history = []
query_report (query.Balances until) chart history = balance_rows chart (entries_until until history)
query_report (query.Entries from until) chart history = entry_rows chart from until history

-- `send` sends the outgoing messages of the entries at these places, as far as there are any, `statements` the pages of the vostro
-- accounts and `customer-statements` those of the customers' accounts, each followed by `$`; `ship` sends the packets of the records
-- with these numbers, with nothing between them
abbrev pub query_out : Query → Chart → List Entry → List ℕ
query_out (query.Send from until) chart history = sent_from chart from (take until history)
query_out (query.Ship from until) chart history = shipped_out from until chart history
query_out query.Bookings chart history = []
query_out (query.Balances until) chart history = []
query_out (query.Entries from until) chart history = []
query_out (query.Statements owners day) chart history = sent_statements owners chart history day

-- What is known of what is sent: statements close at the balances, and are read back. What `send` sends was entered under other
-- tables, and may not pass under any that are known.
abbrev pub QuerySends : Query → Chart → List Entry → Type 0
QuerySends (query.Send from until) chart history = Unit {0}
QuerySends (query.Ship from until) chart history = Unit {0}
QuerySends query.Bookings chart history = Unit {0}
QuerySends (query.Balances until) chart history = Unit {0}
QuerySends (query.Entries from until) chart history = Unit {0}
QuerySends (query.Statements owners day) chart history = AreStatements owners chart history day

module _ {D : Type 0} (disk : disks.Ghosts D) (old new : D) where
  -- nothing is written to the disk, and no call of it failed
  pub record QueryLeaves : Type 0 where
    pub sure : HasNotFailed disk old new
    pub unwritten : IsUnwritten disk old new

-- a query is of the journal that was read
abbrev pub query_meaning : Query → Meaning
query_meaning asked = record {
  is_for = λ i. Unit {0};
  steps = query_steps;
  report = λ i. query_report asked i.chart i.history;
  out = λ i. query_out asked i.chart i.history;
  valid = λ i. QuerySends asked i.chart i.history;
  leaves = λ D disk old new i. QueryLeaves disk old new;
}
