-- The command `follow`: packets that were received are taken into the journal of a second machine.
use Rattle.std.specs.Prelude.{List, [], ◌∷◌}
use Rattle.corr_top.specs.Followed.{HasTaken, followed}
use Rattle.corr_top.specs.Meaning.{Meaning}
use Rattle.corr_top.specs.Steps.{Step}

-- what the disk holds, the packets of the file, which is read and cut whole, and the taking of these
abbrev pub follow_steps : List Step
follow_steps = Step.begin ∷ Step.packets ∷ Step.take ∷ []

-- it reports how many packets there were, how many were added, and how many records are held, and sends nothing
abbrev pub follow_meaning : Meaning
follow_meaning = record {
  is_for = λ i. Unit {0};
  steps = follow_steps;
  report = λ i. followed i.held i.packets;
  out = λ i. [];
  valid = λ i. Unit {0};
  leaves = λ D disk old new i. HasTaken disk old new i.held i.packets;
}
