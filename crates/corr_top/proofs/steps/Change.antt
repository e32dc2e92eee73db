-- A change of the journal's accounts.
use Rattle.std.proofs.Common.{◌≡◌, ℕ, ◌+◌, ◌-◌, ◌≤◌, inl, inr, List, length, Option, Some, None, refl, sym, ap, ◌∙◌, subst, arith}
use Rattle.std.proofs.lemmas.Option.{none-some}
use Rattle.corr_disk.specs.declared.disk.Disk as disks
use Rattle.corr_disk.specs.Disk.{most_disk_bytes}
use Rattle.day_model.specs.declared.change.What.{What}
use Rattle.day_model.specs.declared.entry.Entry.{Entry}
use Rattle.day_model.specs.Chart.{Chart}
use Rattle.jrn_book.specs.declared.changing.ChangeFault.{ChangeFault}
use Rattle.jrn_book.specs.declared.changing.ChangeFault.TheVariants as changing
use Rattle.jrn_book.specs.Changing.{ChangeShows, change_need, refused_now}
use Rattle.jrn_book.specs.Journal.{file_of}
use Rattle.ref_tables.specs.Seen.{Tables}
use Rattle.ref_tables.specs.declared.fault.TableName.TheVariants as names
use Rattle.ref_tables.specs.declared.fault.Why.{Why}
use Rattle.corr_top.specs.declared.account_words.AccountChange.{AccountChange}
use Rattle.corr_top.specs.declared.account_words.AccountChange.TheVariants.{Open, Limit}
use Rattle.corr_top.specs.declared.status.Status.{Status}
use Rattle.corr_top.specs.declared.status.Status.TheVariants as status
use Rattle.corr_top.specs.Changed.{StopsChanging, lent_in, opened_by, row_fault, what_in, what_of, words_fault}
use Rattle.corr_top.specs.Ready.{IsSure}
use Rattle.corr_top.specs.Inputs.{Inputs}
use Rattle.corr_top.specs.Passing.{IsReady, StopsAt}
use Rattle.corr_top.specs.Steps.{Step, Walks}
use Rattle.corr_top.specs.Stops.{status_of_change}
use Rattle.corr_top.proofs.FaultCounts.{tells_rose}
use Rattle.corr_top.proofs.Told.{same_lent}
use Rattle.corr_top.proofs.Walking.{walked}
use Rattle.corr_top.proofs.steps.Laws.{Agrees, HasRowTables, IsAfter, IsStop, SameJournal, Setting, StepLaws, memory_stop}
use Rattle.corr_top.proofs.steps.OpenJournal.{opening_line}

-- ---- what is changed is what was told to change

-- a change of the same accounts that is read under the same tables is the same, and so is the fault of its row
same_row : (j i : Inputs) (done : List Step) (change : AccountChange) → HasRowTables change done → Walks (Agrees j i) done → row_fault i.chart (lent_in j) change ≡ row_fault i.chart (lent_in i) change
same_row j i done (Open words) has all = ap (λ (known : Tables). words_fault i.chart known words) (same_lent j i (walked (Agrees j i) done (Step.table names.Bics) all has.0) (walked (Agrees j i) done (Step.table names.Ccys) all has.1))
same_row j i done (Limit id ends) has all = refl

same_what : (j i : Inputs) (done : List Step) (change : AccountChange) → HasRowTables change done → Walks (Agrees j i) done → what_in i.chart (lent_in j) change ≡ what_in i.chart (lent_in i) change
same_what j i done (Open words) has all = ap (λ (known : Tables). opened_by known words) (same_lent j i (walked (Agrees j i) done (Step.table names.Bics) all has.0) (walked (Agrees j i) done (Step.table names.Ccys) all has.1))
same_what j i done (Limit id ends) has all = refl

record SameChange (j i : Inputs) : Type 0 where
  pub chart : j.chart ≡ i.chart
  pub history : j.history ≡ i.history
  pub row : row_fault j.chart (lent_in j) j.change ≡ row_fault i.chart (lent_in i) i.change
  pub what : what_of j ≡ what_of i

same_change : (j i : Inputs) (done : List Step) → j.change ≡ i.change → SameJournal j i → HasRowTables i.change done → Walks (Agrees j i) done → SameChange j i
same_change j i done asked journal has all = record {
  chart = journal.chart;
  history = journal.history;
  row = ap (λ (c : Chart). row_fault c (lent_in j) j.change) journal.chart ∙ ap (λ (x : AccountChange). row_fault i.chart (lent_in j) x) asked ∙ same_row j i done i.change has all;
  what = ap (λ (c : Chart). what_in c (lent_in j) j.change) journal.chart ∙ ap (λ (x : AccountChange). what_in i.chart (lent_in j) x) asked ∙ same_what j i done i.change has all;
}

-- ---- a change that nothing is wrong with

change_memory : {D : Type 0} (d : disks.Ghosts D) (old new : D) (chart : Chart) (history : List Entry) (told : Option Why) (what : What) (s : Status) → IsSure d old new → told ≡ None → refused_now chart history what ≡ None
    → (length (file_of chart history) - 1) + change_need what ≤ most_disk_bytes → StopsChanging d old new chart history told what s → s ≡ status.Memory
change_memory {D} d old new chart history told what s sure fine legal room stops = elim stops [
  | inl row ↦ absurd (none-some _ (sym fine ∙ row.2.is))
  | inr later ↦ elim later [
    | inl change ↦ change.1 ∙ by_cause change.0 change.3.cause
    | inr memory ↦ memory.0
  ]
]
  where
    by_cause : (stop : ChangeFault) → ChangeShows chart history what (length (file_of chart history) - 1) (d.faults old) (d.faults new) (Some stop) → status_of_change what (length history) stop ≡ status.Memory
    by_cause (changing.Open fault) cause = absurd cause
    by_cause changing.Unknown cause = absurd (none-some _ (sym legal ∙ cause.0))
    by_cause changing.Rows cause = absurd (none-some _ (sym legal ∙ cause.0))
    by_cause (changing.Double row) cause = absurd (none-some _ (sym legal ∙ cause.0))
    by_cause changing.Currency cause = absurd (none-some _ (sym legal ∙ cause.0))
    by_cause (changing.Limits account) cause = absurd (none-some _ (sym legal ∙ cause.0))
    by_cause (changing.Full end need) cause = let past = cause.3 in let at = cause.1 in let more = cause.2 in absurd (omega (arith, past, at, more, room))
    by_cause (changing.DiskFault b a) cause = absurd (sure.sound (tells_rose (d.faults old) b a (d.faults new) cause.2))
    by_cause changing.Memory cause = refl

change_stop : (what : What) (entries : ℕ) (stop : ChangeFault) → IsStop (status_of_change what entries stop)
change_stop what entries (changing.Open fault) = opening_line fault
change_stop what entries changing.Unknown = record { line = tt; silent = refl }
change_stop what entries changing.Rows = record { line = tt; silent = refl }
change_stop what entries (changing.Double row) = record { line = tt; silent = refl }
change_stop what entries changing.Currency = record { line = tt; silent = refl }
change_stop what entries (changing.Limits account) = record { line = tt; silent = refl }
change_stop what entries (changing.Full end need) = record { line = tt; silent = refl }
change_stop what entries (changing.DiskFault before after) = record { line = tt; silent = refl }
change_stop what entries changing.Memory = record { line = tt; silent = refl }

changes_memory : (x : Setting) (s : Status) (done : List Step) → IsAfter x.told.change done Step.change → Walks (Agrees x.read x.told) done → IsReady x.source x.disk x.old x.new x.told Step.change
    → StopsAt x.source x.disk x.old x.new x.read s Step.change → s ≡ status.Memory
changes_memory x s done after all ready stops =
    let same = same_change x.read x.told done x.change (walked (Agrees x.read x.told) done Step.open_journal all after.0) after.1 all in
    let here = subst (λ (v : Chart × List Entry × Option Why × What). StopsChanging x.disk x.old.disk x.new.disk v.0 v.1 v.2 v.3 s) (λ k. (same.chart k, same.history k, same.row k, same.what k)) stops in
    change_memory x.disk x.old.disk x.new.disk x.told.chart x.told.history (row_fault x.told.chart (lent_in x.told) x.told.change) (what_of x.told) s ready.0 ready.1.row ready.1.legal ready.1.room here

change_line : (x : Setting) (s : Status) → StopsAt x.source x.disk x.old x.new x.read s Step.change → IsStop s
change_line x s (inl row) = subst IsStop (sym row.1) (record { line = tt; silent = refl })
change_line x s (inr (inl change)) = subst IsStop (sym change.1) (change_stop (what_of x.read) (length x.read.history) change.0)
change_line x s (inr (inr memory)) = subst IsStop (sym memory.0) memory_stop

pub of_change : StepLaws Step.change
of_change = record { agrees = λ x ready passes. tt; memory = changes_memory; line = change_line }
