-- The commands `open-account` and `set-limits`: the accounts of a journal change.
use Rattle.std.specs.Prelude.{◌≡◌, List, [], ◌∷◌}
use Rattle.ref_tables.specs.declared.fault.TableName.TheVariants as names
use Rattle.corr_top.specs.declared.account_words.AccountChange.{AccountChange}
use Rattle.corr_top.specs.declared.account_words.AccountChange.TheVariants.{Open, Limit}
use Rattle.corr_top.specs.Changed.{HasChanged, what_of}
use Rattle.corr_top.specs.Meaning.{Meaning}
use Rattle.corr_top.specs.Steps.{Step}

-- `open-account` reads the tables of banks and currencies; both open the journal, and change it
abbrev pub change_steps : AccountChange → List Step
change_steps (Open words) = Step.table names.Bics ∷ Step.table names.Ccys ∷ Step.open_journal ∷ Step.change ∷ []
change_steps (Limit id ends) = Step.open_journal ∷ Step.change ∷ []

-- it is of the change that the words say, leaves the journal with just this change more, and writes nothing else
abbrev pub change_meaning : AccountChange → Meaning
change_meaning change = record {
  is_for = λ i. i.change ≡ change;
  steps = change_steps change;
  report = λ i. [];
  out = λ i. [];
  valid = λ i. Unit {0};
  leaves = λ D disk old new i. HasChanged disk old new i.chart i.history (what_of i);
}
