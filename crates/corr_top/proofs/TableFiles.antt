-- Tables that are read one after another, and how that stops.
use Rattle.std.proofs.Common.{◌≡◌, inl, inr, ℕ, List, [], ◌∷◌, Option, refl, sym, ap, ◌∙◌, subst}
use Rattle.std.specs.Prelude.{map, pos}
use Rattle.ref_tables.specs.declared.fault.TableName.TheVariants as names
use Rattle.ref_tables.specs.Rows.{rows_of}
use Rattle.ref_tables.specs.Tables.{ccy_of, country_in_row}
use Rattle.ref_tables.specs.declared.account.AccountRow.{AccountRow}
use Rattle.ref_tables.specs.Accounts.{account_of}
use Rattle.ref_tables.specs.Charges.{charge_in_row}
use Rattle.ref_tables.specs.Seen.{Tables}
use Rattle.corr_io.specs.declared.source.Source as sources
use Rattle.corr_ids.specs.declared.bic.Bic.{Bic}
use Rattle.corr_money.specs.declared.amount.Ccy.{Ccy}
use Rattle.corr_money.specs.declared.amount.Minor.{Minor}
use Rattle.day_model.specs.declared.account.Account.{Account}
use Rattle.day_model.specs.declared.fault.AccountsFault.{AccountsFault}
use Rattle.day_model.specs.declared.fault.AccountsFault.TheVariants as accounts
use Rattle.day_model.specs.Chart.{Chart, opening_sum}
use Rattle.day_model.specs.Gap.{TellsUnbalanced}
use Rattle.ssi_versions.specs.Rows.{instruction_of}
use Rattle.ssi_versions.specs.declared.row.SsiRow.{SsiRow}
use Rattle.corr_top.specs.declared.account_words.AccountChange.TheVariants.{Limit}
use Rattle.corr_top.specs.declared.directory.Directory.{Directory}
use Rattle.corr_top.specs.declared.reading.ReadStop.{ReadStop}
use Rattle.corr_top.specs.declared.reading.ReadStop.TheVariants as stop
use Rattle.corr_top.specs.declared.tables.TableStop.{TableStop}
use Rattle.standby.specs.Held.{nothing}
use Rattle.corr_top.specs.Inputs.{Inputs, accounts_in, chart_in, directory_in, opened, tables_in}
use Rattle.corr_top.specs.Passing.{Bad, Balances, IsFine, StopsAtSums, StopsAtTable}
use Rattle.corr_top.specs.inner.Passing.{TellsDecimals}
use Rattle.corr_top.specs.inner.Reading.{IsStopped}
use Rattle.corr_top.specs.Steps.{Halts, Step, Walks}
use Rattle.corr_top.specs.inner.Tables.{AreUntouched, HasAccounts, HasDirectory, PassesTables, StopsAccounts, StopsAtTables, StopsDirectory, StopsKnown, known_steps}
use Rattle.corr_top.proofs.Walking.{halts_back, halts_front, walks_both, walks_parts}
use Rattle.corr_top.specs.declared.room.Tables.{Tables as Files}
use Rattle.corr_top.specs.declared.status.Status.{Status}
use Rattle.corr_top.specs.declared.status.Status.TheVariants as no_memory
use Rattle.corr_top.specs.Stops.{status_of_table}
use Rattle.corr_top.specs.inner.Stops.{table_stop_of_read}

-- tables with other currencies, or other countries
abbrev pub with_ccys : List ℕ → Tables → Tables
with_ccys file t = record t { ccys = map ccy_of (rows_of file) }

abbrev pub with_countries : List ℕ → Tables → Tables
with_countries file t = record t { countries = map country_in_row (rows_of file) }

module _ {S : Type 0} (source : sources.Ghosts S) (old new : S) where
  -- it was not read
  pub read_stopped : (file : List ℕ) (fault : Option Bad) (s : ReadStop) → IsStopped source.faults old new s → StopsAtTable source old new file fault (table_stop_of_read s)
  read_stopped file fault (stop.Fault then now) why = why
  read_stopped file fault stop.Memory why = why

  -- a fault under tables that are equal
  pub stops_under : (file : List ℕ) (s : TableStop) (fault : Tables → Option Bad) (t u : Tables) → t ≡ u → StopsAtTable source old new file (fault t) s → StopsAtTable source old new file (fault u) s
  stops_under file s fault t u same stops = subst (λ (x : Tables). StopsAtTable source old new file (fault x) s) same stops

  pub fine_under : (file : List ℕ) (fault : Tables → Option Bad) (t u : Tables) → t ≡ u → IsFine source old new file (fault t) → IsFine source old new file (fault u)
  fine_under file fault t u same fine = subst (λ (x : Tables). IsFine source old new file (fault x)) same fine

  -- from a source that is the same
  pub fine_from : (start : S) (file : List ℕ) (fault : Option Bad) → old ≡ start → IsFine source old new file fault → IsFine source start new file fault
  fine_from start file fault same fine = subst (λ (x : S). IsFine source x new file fault) same fine

  pub stops_from : (start : S) (file : List ℕ) (fault : Option Bad) (s : TableStop) → old ≡ start → StopsAtTable source old new file fault s → StopsAtTable source start new file fault s
  stops_from start file fault s same stops = subst (λ (x : S). StopsAtTable source x new file fault s) same stops

-- the rows of the accounts under the tables that were read
pub same_rows : (i : Inputs) (t : Tables) (rows : List AccountRow) → t ≡ tables_in i → rows ≡ map (account_of t) (rows_of i.accounts) → map opened rows ≡ accounts_in i
same_rows i t rows same are = ap (map opened) (are ∙ ap (λ (x : Tables). map (account_of x) (rows_of i.accounts)) same)

-- openings that don't add up
pub sums_stopped : (i : Inputs) (list : List Account) (fault : AccountsFault) → list ≡ accounts_in i → TellsUnbalanced list fault → TellsDecimals fault → StopsAtSums i fault
sums_stopped i list (accounts.Unbalanced ccy decimals sum) same told few = (subst (λ (l : List Account). TellsUnbalanced l (accounts.Unbalanced ccy decimals sum)) same told, few)
sums_stopped i list accounts.Memory same told few = tt

-- openings that do
pub sums_balance : (i : Inputs) (list : List Account) → list ≡ accounts_in i → ((ccy : Ccy) → opening_sum ccy list ≡ pos 0) → Balances i
sums_balance i list same balanced = λ ccy. ap (opening_sum ccy) (sym same) ∙ balanced ccy

-- the directory over them
pub same_directory : (i : Inputs) (t : Tables) (ssi : List SsiRow) (charges : List (List ℕ × Minor)) → t ≡ tables_in i → ssi ≡ map instruction_of (rows_of i.ssi) → charges ≡ map charge_in_row (rows_of i.charges)
    → (record { tables = t; ssi = ssi; charges = charges }) ≡ directory_in i
same_directory i t ssi charges tables instructions charged =
    let with : Tables → List SsiRow → List (List ℕ × Minor) → Directory = λ x rows taken. record { tables = x; ssi = rows; charges = taken } in
    ap (λ (x : Tables). with x ssi charges) tables
    ∙ ap (λ (rows : List SsiRow). with (tables_in i) rows charges) instructions
    ∙ ap (λ (taken : List (List ℕ × Minor)). with (tables_in i) (map instruction_of (rows_of i.ssi)) taken) charged

-- nothing was read
abbrev pub no_inputs : Inputs
no_inputs = record {
  home = record { head = []; branch = [] };
  day = record { 0 = pos 0 };
  workers = 0;
  entries = 0;
  change = Limit [] (record { floor = pos 0; ceil = pos 0 });
  place = 0;
  bics = [];
  ccys = [];
  countries = [];
  accounts = [];
  ssi = [];
  charges = [];
  messages = [];
  cut = [];
  chart = record { home = record { head = []; branch = [] }; first = []; changes = [] };
  history = [];
  entered = [];
  held = nothing;
  packets = [];
}

-- the tables of a directory after those three
abbrev pub more_steps : List Step
more_steps = Step.table names.Ssi ∷ Step.table names.Charges ∷ []

-- the steps of the accounts after them
abbrev pub last_steps : List Step
last_steps = Step.table names.Accounts ∷ Step.sums ∷ []

module _ {S : Type 0} (source : sources.Ghosts S) (old new : Files S) where
  -- one of the first three stopped the directory, or the accounts
  pub directory_after : (stop : TableStop) → StopsKnown source old new stop → StopsDirectory source old new stop
  directory_after stop q = record {
    at = record {
      inputs = q.at.inputs;
      halted = halts_front (PassesTables source old new q.at.inputs) (StopsAtTables source old new q.at.inputs (status_of_table stop)) (AreUntouched source old new) known_steps more_steps q.at.halted (q.ssi, (q.charges, tt));
    };
    accounts = q.accounts;
  }

  -- one of the two after them stopped the directory
  pub directory_stopped : (i : Inputs) (stop : TableStop) → Walks (PassesTables source old new i) known_steps → new.accounts ≡ old.accounts
      → Halts (PassesTables source old new i) (StopsAtTables source old new i (status_of_table stop)) (AreUntouched source old new) more_steps → StopsDirectory source old new stop
  directory_stopped i stop passed accounts halts = record {
    at = record {
      inputs = i;
      halted = halts_back (PassesTables source old new i) (StopsAtTables source old new i (status_of_table stop)) (AreUntouched source old new) known_steps more_steps passed halts;
    };
    accounts = accounts;
  }

  -- all of them passed
  pub directory_read : (i : Inputs) (directory : Directory) → Walks (PassesTables source old new i) known_steps → Walks (PassesTables source old new i) more_steps → directory ≡ directory_in i → new.accounts ≡ old.accounts
      → HasDirectory source old new directory
  directory_read i directory passed more is accounts = record {
    inputs = i;
    passed = walks_both (PassesTables source old new i) known_steps more_steps passed more;
    directory_is = is;
    accounts = accounts;
  }

  pub accounts_after : (home : Bic) (stop : TableStop) → StopsKnown source old new stop → StopsAccounts source old new home (status_of_table stop)
  accounts_after home stop q =
      let i : Inputs = record q.at.inputs { home = home } in
      record {
        inputs = i;
        home_is = refl;
        halted = halts_front (PassesTables source old new i) (StopsAtTables source old new i (status_of_table stop)) (AreUntouched source old new) known_steps last_steps q.at.halted (q.accounts, (tt, tt));
        ssi = q.ssi;
        charges = q.charges;
      }

  -- the accounts or the sums stopped them
  pub accounts_stopped : (i : Inputs) (s : Status) → Walks (PassesTables source old new i) known_steps
      → Halts (PassesTables source old new i) (StopsAtTables source old new i s) (AreUntouched source old new) last_steps → new.ssi ≡ old.ssi → new.charges ≡ old.charges
      → StopsAccounts source old new i.home s
  accounts_stopped i s passed halts ssi charges = record {
    inputs = i;
    home_is = refl;
    halted = halts_back (PassesTables source old new i) (StopsAtTables source old new i s) (AreUntouched source old new) known_steps last_steps passed halts;
    ssi = ssi;
    charges = charges;
  }

  -- all of them passed
  pub accounts_read : (i : Inputs) (chart : Chart) → Walks (PassesTables source old new i) known_steps → Walks (PassesTables source old new i) last_steps → chart ≡ chart_in i
      → new.ssi ≡ old.ssi → new.charges ≡ old.charges → HasAccounts source old new i.home chart
  accounts_read i chart passed more is ssi charges = record {
    inputs = i;
    home_is = refl;
    passed = walks_both (PassesTables source old new i) known_steps last_steps passed more;
    chart_is = is;
    ssi = ssi;
    charges = charges;
  }

  -- memory ran out after the accounts were read
  pub memory_after : (home : Bic) (chart : Chart) → HasAccounts source old new home chart → StopsAccounts source old new home no_memory.Memory
  memory_after home chart has =
      let parts = walks_parts (PassesTables source old new has.inputs) known_steps last_steps has.passed in
      record {
        inputs = has.inputs;
        home_is = has.home_is;
        halted = halts_back (PassesTables source old new has.inputs) (StopsAtTables source old new has.inputs no_memory.Memory) (AreUntouched source old new) known_steps last_steps
            parts.0 (inr (parts.1.0, inl ((accounts.Memory, refl, tt), tt)));
        ssi = has.ssi;
        charges = has.charges;
      }
