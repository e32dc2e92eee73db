-- The command `mend`: what the file of messages that leave should hold.
use Rattle.std.specs.Prelude.{ℕ, List, [], ◌∷◌, take}
use Rattle.day_model.specs.declared.entry.Entry.{Entry}
use Rattle.day_model.specs.Chart.{Chart}
use Rattle.out_file.specs.Mended.{mended_of}
use Rattle.corr_top.specs.Meaning.{Meaning}
use Rattle.corr_top.specs.Out.{sent_from}
use Rattle.corr_top.specs.Query.{QueryLeaves}
use Rattle.corr_top.specs.Steps.{Step}

-- the journal, and the file of messages that leave
abbrev pub mend_steps : List Step
mend_steps = Step.open_journal ∷ Step.sent ∷ []

-- the whole messages of the file as they stand, then those of the entries at these places that don't stand whole in it, in their order
unfoldable pub mended_out : ℕ → ℕ → Chart → List Entry → List ℕ → List ℕ
mended_out from until chart history file = mended_of file (sent_from chart from (take until history))

-- it reports that, sends nothing, and writes nothing to the disk
abbrev pub mend_meaning : ℕ → ℕ → Meaning
mend_meaning from until = record {
  is_for = λ i. Unit {0};
  steps = mend_steps;
  report = λ i. mended_out from until i.chart i.history i.messages;
  out = λ i. [];
  valid = λ i. Unit {0};
  leaves = λ D disk old new i. QueryLeaves disk old new;
}
