-- The command `migrate`: a journal of version 1 is carried over to a second disk.
use Rattle.std.specs.Prelude.{List, [], ◌∷◌}
use Rattle.corr_top.specs.Meaning.{Meaning}
use Rattle.corr_top.specs.Query.{QueryLeaves}
use Rattle.corr_top.specs.Steps.{Step}

-- there is a second disk, the journal of version 1 is opened, and one of the same accounts and history is made on the second disk
abbrev pub migrate_steps : List Step
migrate_steps = Step.second ∷ Step.old_journal ∷ Step.copy ∷ []

-- nothing is written to the first disk, nor to the report or to what is sent
abbrev pub migrate_meaning : Meaning
migrate_meaning = record {
  is_for = λ i. Unit {0};
  steps = migrate_steps;
  report = λ i. [];
  out = λ i. [];
  valid = λ i. Unit {0};
  leaves = λ D disk old new i. QueryLeaves disk old new;
}
