-- The command `init`: the journal of a home bank and its accounts is made.
use Rattle.std.specs.Prelude.{◌≡◌, List, [], ◌∷◌}
use Rattle.corr_disk.specs.declared.disk.Disk as disks
use Rattle.corr_ids.specs.declared.bic.Bic.{Bic}
use Rattle.jrn_book.specs.Journal.{IsJournal}
use Rattle.ref_tables.specs.declared.fault.TableName.TheVariants as names
use Rattle.corr_top.specs.Inputs.{Inputs, chart_in}
use Rattle.corr_top.specs.Meaning.{Meaning}
use Rattle.corr_top.specs.OnDisk.{HasNotFailed, IsOnDisk, MakesInTurn}
use Rattle.corr_top.specs.Steps.{Step}

-- the tables of banks, currencies, countries and accounts, the sums of the openings, and the making of the journal
abbrev pub init_steps : List Step
init_steps = Step.table names.Bics ∷ Step.table names.Ccys ∷ Step.table names.Countries ∷ Step.table names.Accounts ∷ Step.sums ∷ Step.make ∷ []

-- what it leaves: the journal of these accounts, without entries, which may be opened, and nothing else; a crash at each moment leaves
-- a disk on which nothing is made yet, or that journal
pub record InitLeaves {D : Type 0} (disk : disks.Ghosts D) (old new : D) (i : Inputs) : Type 0 where
  pub sure : HasNotFailed disk old new
  pub made : IsOnDisk disk new (chart_in i) []
  pub journal : IsJournal (chart_in i) []
  pub any_moment : MakesInTurn disk old new (chart_in i)

-- it is of the home bank that the words name, and writes nothing
abbrev pub init_meaning : Bic → Meaning
init_meaning home = record {
  is_for = λ i. i.home ≡ home;
  steps = init_steps;
  report = λ i. [];
  out = λ i. [];
  valid = λ i. Unit {0};
  leaves = λ D disk old new i. InitLeaves disk old new i;
}
