-- The table files, read and tested one after another.
use Rattle.std.specs.Prelude.{◌≡◌, List, [], ◌∷◌}
use Rattle.corr_io.specs.declared.source.Source as sources
use Rattle.corr_ids.specs.declared.bic.Bic.{Bic}
use Rattle.day_model.specs.Chart.{Chart}
use Rattle.ref_tables.specs.declared.fault.TableName.TheVariants as names
use Rattle.ref_tables.specs.Seen.{Tables as Known}
use Rattle.corr_top.specs.declared.directory.Directory.{Directory}
use Rattle.corr_top.specs.declared.room.Tables.{Tables}
use Rattle.corr_top.specs.declared.status.Status.{Status}
use Rattle.corr_top.specs.declared.tables.TableStop.{TableStop}
use Rattle.corr_top.specs.Changed.{lent_in}
use Rattle.corr_top.specs.Inputs.{Inputs, chart_in, directory_in, tables_in}
use Rattle.corr_top.specs.Passing.{Balances, PassesTable, StopsSums, StopsTable, table_at}
use Rattle.corr_top.specs.Steps.{Halts, Step, Walks}
use Rattle.corr_top.specs.Stops.{status_of_table}

-- the tables of banks and currencies
abbrev pub lent_steps : List Step
lent_steps = Step.table names.Bics ∷ Step.table names.Ccys ∷ []

-- the tables of banks, currencies and countries
abbrev pub known_steps : List Step
known_steps = Step.table names.Bics ∷ Step.table names.Ccys ∷ Step.table names.Countries ∷ []

-- with the instructions and the charges
abbrev pub directory_steps : List Step
directory_steps = Step.table names.Bics ∷ Step.table names.Ccys ∷ Step.table names.Countries ∷ Step.table names.Ssi ∷ Step.table names.Charges ∷ []

-- with the accounts, and the sums of their openings
abbrev pub account_steps : List Step
account_steps = Step.table names.Bics ∷ Step.table names.Ccys ∷ Step.table names.Countries ∷ Step.table names.Accounts ∷ Step.sums ∷ []

module _ {S : Type 0} (source : sources.Ghosts S) (old new : Tables S) where
  -- these steps over the tables alone
  abbrev pub PassesTables : Inputs → Step → Type 0
  PassesTables i (Step.table name) = PassesTable source old new i name
  PassesTables i Step.sums = Balances i
  PassesTables i _ = ⊥

  -- one of these steps stopped with this status: the fault of its table, or openings that don't sum to 0
  abbrev pub StopsAtTables : Inputs → Status → Step → Type 0
  StopsAtTables i s (Step.table name) = StopsTable source old new i s name
  StopsAtTables i s Step.sums = StopsSums i s
  StopsAtTables i s _ = ⊥

  -- the table of this step is as it was
  abbrev pub AreUntouched : Step → Type 0
  AreUntouched (Step.table name) = table_at name new ≡ table_at name old
  AreUntouched _ = Unit {0}

  -- no other table than those of banks and currencies was touched
  pub record LeavesOthers : Type 0 where
    pub countries : new.countries ≡ old.countries
    pub accounts : new.accounts ≡ old.accounts
    pub ssi : new.ssi ≡ old.ssi
    pub charges : new.charges ≡ old.charges

  -- the tables of banks and currencies were read and are fine, and this is what they say
  pub record HasLent (known : Known) : Type 0 where
    pub inputs : Inputs
    pub passed : Walks (PassesTables inputs) lent_steps
    pub known_is : known ≡ lent_in inputs
    pub rest : LeavesOthers

  -- the tables of banks, currencies and countries were read and are fine, and this is what they say
  pub record HasKnown (known : Known) : Type 0 where
    pub inputs : Inputs
    pub passed : Walks (PassesTables inputs) known_steps
    pub known_is : known ≡ tables_in inputs
    pub accounts : new.accounts ≡ old.accounts
    pub ssi : new.ssi ≡ old.ssi
    pub charges : new.charges ≡ old.charges

  -- the instructions and the charges too
  pub record HasDirectory (directory : Directory) : Type 0 where
    pub inputs : Inputs
    pub passed : Walks (PassesTables inputs) directory_steps
    pub directory_is : directory ≡ directory_in inputs
    pub accounts : new.accounts ≡ old.accounts

  -- the accounts too, those of this home bank, and their openings sum to 0
  pub record HasAccounts (home : Bic) (chart : Chart) : Type 0 where
    pub inputs : Inputs
    pub home_is : inputs.home ≡ home
    pub passed : Walks (PassesTables inputs) account_steps
    pub chart_is : chart ≡ chart_in inputs
    pub ssi : new.ssi ≡ old.ssi
    pub charges : new.charges ≡ old.charges

  -- one of these steps stopped
  pub record StopsIn (steps : List Step) (s : Status) : Type 0 where
    pub inputs : Inputs
    pub halted : Halts (PassesTables inputs) (StopsAtTables inputs s) AreUntouched steps

  -- reading the tables of banks and currencies stops
  pub record StopsLent (stop : TableStop) : Type 0 where
    pub at : StopsIn lent_steps (status_of_table stop)
    pub rest : LeavesOthers

  -- reading the three tables stops
  pub record StopsKnown (stop : TableStop) : Type 0 where
    pub at : StopsIn known_steps (status_of_table stop)
    pub accounts : new.accounts ≡ old.accounts
    pub ssi : new.ssi ≡ old.ssi
    pub charges : new.charges ≡ old.charges

  -- reading the directory stops
  pub record StopsDirectory (stop : TableStop) : Type 0 where
    pub at : StopsIn directory_steps (status_of_table stop)
    pub accounts : new.accounts ≡ old.accounts

  -- reading the accounts of a home bank stops
  pub record StopsAccounts (home : Bic) (s : Status) : Type 0 where
    pub inputs : Inputs
    pub home_is : inputs.home ≡ home
    pub halted : Halts (PassesTables inputs) (StopsAtTables inputs s) AreUntouched account_steps
    pub ssi : new.ssi ≡ old.ssi
    pub charges : new.charges ≡ old.charges
