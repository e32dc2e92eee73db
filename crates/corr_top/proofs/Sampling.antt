-- The bank of a trial: what its files say when they are read, and its journal.
use Rattle.std.proofs.Common.{◌≡◌, ℕ, true, ◌+◌, ◌≤◌, List, [], ◌++◌, length, map, Option, None, Some, Result, Ok, Err, refl, sym, ap, ◌∙◌, subst, arith, append-nil, length-append}
use Rattle.std.specs.Prelude.{IsTrue, MatchResult}
use Rattle.corr_books.specs.Finding.{TellsOf}
use Rattle.corr_books.specs.Opening.{Parts}
use Rattle.corr_disk.specs.declared.disk.Disk as disks
use Rattle.corr_ids.specs.declared.bic.Bic.{Bic}
use Rattle.corr_ids.specs.Bic.{IsBic, is_bic}
use Rattle.corr_ids.specs.declared.day.Day.{Day}
use Rattle.corr_io.specs.declared.source.Source as sources
use Rattle.corr_io.specs.InMemory.{Supply}
use Rattle.csv.specs.Machine.{next_record}
use Rattle.csv.specs.Reading.{records_from, strip_bom}
use Rattle.day_model.specs.Chart.{Chart}
use Rattle.jrn_book.specs.Journal.{IsJournal}
use Rattle.jrn_book.specs.Opening.{book}
use Rattle.jrn_book.proofs.laws.Findings.{one_finding}
use Rattle.jrn_codec.specs.Header.{head_bytes}
use Rattle.jrn_file.specs.Reading.{opened_of}
use Rattle.jrn_file.specs.declared.fault.MakeFault.{MakeFault}
use Rattle.ref_tables.specs.Accounts.{account_of}
use Rattle.ref_tables.specs.Charges.{charge_in_row}
use Rattle.ref_tables.specs.Rows.{rows_of}
use Rattle.ref_tables.specs.Tables.{tables_of}
use Rattle.ref_tables.specs.declared.fault.TableName.{TableName}
use Rattle.ref_tables.specs.declared.fault.TableName.TheVariants as names
use Rattle.ssi_versions.specs.Rows.{instruction_of}
use Rattle.corr_top.specs.declared.directory.Directory.{Directory}
use Rattle.corr_top.specs.declared.room.Tables.{Tables as Files}
use Rattle.corr_top.specs.Inputs.{Inputs, chart_in, directory_in, opened}
use Rattle.corr_top.specs.OnDisk.{HasNotFailed, IsMakeable, IsOnDisk, MakesInTurn, StopsMaking}
use Rattle.corr_top.specs.Passing.{IsFine, table_fault, table_file, table_at}
use Rattle.corr_top.specs.Reading.{IsRead, Took}
use Rattle.corr_top.specs.Steps.{Step, Walks}
use Rattle.corr_top.specs.Samples.{sample_accounts, sample_bics, sample_ccys, sample_countries, sample_home, sample_ssi}
use Rattle.corr_top.specs.inner.Tables.{HasAccounts, HasDirectory, PassesTables, account_steps, directory_steps}
use Rattle.corr_top.specs.Trial.{sample_chart, sample_directory}
use Rattle.corr_top.specs.inner.Trial.{AreSampleFiles, IsNewDisk, supply_of}
use Rattle.corr_top.proofs.Walking.{is_named, named_has}

-- ---- a file in memory is read whole

whole_of : (limit : ℕ) (after : Option (List ℕ)) (bytes file : List ℕ) → length file ≤ limit → IsRead limit (Some file) after bytes → bytes ≡ file
whole_of limit None bytes file short read = absurd read.taken
whole_of limit (Some rest) bytes file short read =
    let sizes : length file ≡ length bytes + length rest = ap length read.taken ∙ length-append bytes rest in
    let none : rest ≡ [] = read.ended (omega arith) in
    sym (read.taken ∙ ap (λ l. bytes ++ l) none ∙ append-nil bytes)

-- a file without bytes has no rows
no_rows : rows_of [] ≡ []
unfolding rows_of records_from strip_bom next_record
no_rows = refl

-- sources tell what is left of them
abbrev pub Tells : sources.Ghosts Supply → Type 0
Tells source = (s : Supply) → source.left s ≡ Some s.left

module _ (source : sources.Ghosts Supply) (tells : Tells source) (old new : Files Supply) (are : AreSampleFiles old) where
  read_as : (from to : Supply) (bytes file : List ℕ) → from ≡ supply_of file → length file ≤ 8388608 → Took source.left source.faults 8388608 from to bytes → bytes ≡ file
  read_as from to bytes file is short took =
      whole_of 8388608 (source.left to) bytes file short (subst (λ o. IsRead 8388608 o (source.left to) bytes) (tells from ∙ ap (λ (s : Supply). Some s.left) is) took.read)

  -- a table whose step stands among those that passed was read and is fine
  read_fine : (i : Inputs) (name : TableName) (steps : List Step) → is_named (Step.table name) steps ≡ true → Walks (PassesTables source old new i) steps
      → IsFine source (table_at name old) (table_at name new) (table_file name i) (table_fault name i)
  read_fine i name steps named passed = named_has (PassesTables source old new i) (Step.table name) steps named passed

  bics_are : (i : Inputs) → IsFine source (table_at names.Bics old) (table_at names.Bics new) (table_file names.Bics i) (table_fault names.Bics i) → i.bics ≡ sample_bics
  bics_are i fine = read_as old.bics new.bics i.bics sample_bics are.bics (omega arith) fine.took

  ccys_are : (i : Inputs) → IsFine source (table_at names.Ccys old) (table_at names.Ccys new) (table_file names.Ccys i) (table_fault names.Ccys i) → i.ccys ≡ sample_ccys
  ccys_are i fine = read_as old.ccys new.ccys i.ccys sample_ccys are.ccys (omega arith) fine.took

  countries_are : (i : Inputs) → IsFine source (table_at names.Countries old) (table_at names.Countries new) (table_file names.Countries i) (table_fault names.Countries i) → i.countries ≡ sample_countries
  countries_are i fine = read_as old.countries new.countries i.countries sample_countries are.countries (omega arith) fine.took

  accounts_are : (i : Inputs) → IsFine source (table_at names.Accounts old) (table_at names.Accounts new) (table_file names.Accounts i) (table_fault names.Accounts i) → i.accounts ≡ sample_accounts
  accounts_are i fine = read_as old.accounts new.accounts i.accounts sample_accounts are.accounts (omega arith) fine.took

  ssi_is : (i : Inputs) → IsFine source (table_at names.Ssi old) (table_at names.Ssi new) (table_file names.Ssi i) (table_fault names.Ssi i) → i.ssi ≡ sample_ssi
  ssi_is i fine = read_as old.ssi new.ssi i.ssi sample_ssi are.ssi (omega arith) fine.took

  charges_are : (i : Inputs) → IsFine source (table_at names.Charges old) (table_at names.Charges new) (table_file names.Charges i) (table_fault names.Charges i) → i.charges ≡ []
  charges_are i fine = read_as old.charges new.charges i.charges [] are.charges (omega arith) fine.took

  -- the directory of the sample bank
  pub directory_sampled : (directory : Directory) → HasDirectory source old new directory → directory ≡ sample_directory
  unfolding sample_directory
  directory_sampled directory has =
      let i = has.inputs in
      let bics = bics_are i (read_fine i names.Bics directory_steps refl has.passed) in
      let ccys = ccys_are i (read_fine i names.Ccys directory_steps refl has.passed) in
      let countries = countries_are i (read_fine i names.Countries directory_steps refl has.passed) in
      let ssi = ssi_is i (read_fine i names.Ssi directory_steps refl has.passed) in
      let none = charges_are i (read_fine i names.Charges directory_steps refl has.passed) in
      let charges : map charge_in_row (rows_of i.charges) ≡ [] = ap (λ (f : List ℕ). map charge_in_row (rows_of f)) none ∙ ap (map charge_in_row) no_rows in
      let same : directory_in i ≡ sample_directory =
      λ k. record { tables = tables_of (bics k) (ccys k) (countries k); ssi = map instruction_of (rows_of (ssi k)); charges = charges k } in
      has.directory_is ∙ same

  -- its accounts
  pub chart_sampled : (home : Bic) (chart : Chart) → home ≡ sample_home → HasAccounts source old new home chart → chart ≡ sample_chart
  unfolding sample_chart
  chart_sampled home chart is has =
      let i = has.inputs in
      let bics = bics_are i (read_fine i names.Bics account_steps refl has.passed) in
      let ccys = ccys_are i (read_fine i names.Ccys account_steps refl has.passed) in
      let countries = countries_are i (read_fine i names.Countries account_steps refl has.passed) in
      let accounts = accounts_are i (read_fine i names.Accounts account_steps refl has.passed) in
      let bank = has.home_is ∙ is in
      let same : chart_in i ≡ sample_chart = λ k. record { home = bank k; first = map opened (map (account_of (tables_of (bics k) (ccys k) (countries k))) (rows_of (accounts k))); changes = [] } in
      has.chart_is ∙ same

-- its home's BIC meets its grammar
pub home_formed : IsBic sample_home
unfolding is_bic
home_formed = refl

-- ---- its journal

-- the journal was made on a new disk
pub made_new : {D : Type 0} (d : disks.Ghosts D) (old new : D) (head : List ℕ) (making : Result (Unit {0}) MakeFault) → making ≡ Ok tt
    → MatchResult making (λ _. (c : Chart) → c.changes ≡ [] → head ≡ head_bytes c → IsMakeable d old × IsOnDisk d new c [] × HasNotFailed d old new × MakesInTurn d old new c) (λ fault. (c : Chart) → head ≡ head_bytes c → StopsMaking d old new c fault)
    → sample_chart.changes ≡ [] → head ≡ head_bytes sample_chart → IsTrue (d.honest new) → d.faults old ≡ 0 → IsNewDisk d new
made_new d old new head (Ok done) is made none written honest sure = let m = made sample_chart none written in record { honest = honest; holds = m.1; faults = m.2 ∙ sure }
made_new d old new head (Err fault) is made none written honest sure = absurd cc

-- a new journal is opened as the accounts and no history
pub opened_new : {D : Type 0} (d : disks.Ghosts D) (disk : D) (day : Day) (parts : Parts D) → IsNewDisk d disk → IsJournal sample_chart [] → (IsTrue (d.honest disk) → TellsOf (opened_of (d.reads disk)) day (Ok parts))
    → (parts.accounts ≡ sample_chart) × (parts.base ≡ [])
opened_new d disk day parts new journal told =
    let t = told new.honest refl in
    let same : book parts.accounts parts.base ≡ book sample_chart [] = sym t.2.0 ∙ one_finding (opened_of (d.reads disk)) t.0 (book sample_chart []) t.1 (journal, new.holds.stands new.honest) in
    (cc same, cc same)
