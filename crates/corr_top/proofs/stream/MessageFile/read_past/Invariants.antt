use Rattle.std.proofs.Common.{◌≡◌, ◌++◌, ℕ, List, Option}
use Rattle.corr_top.specs.inner.Stream.{IsStreamOf, messages_so_far}
use Rattle.corr_top.proofs.StreamSteps.{left_to_read}
use Rattle.corr_top.proofs.stream.MessageFile.read_past.Given as goal

-- it stays what it is, and what was found before stays
abbrev pub invariant-loop-self : goal.invariant-loop-self
invariant-loop-self g l = record {
  stream : (left : Option (List ℕ)) (faults : ℕ) → IsStreamOf g.S.Source left faults l.fn.self → IsStreamOf g.S.Source left faults l.self;
  more : (found : List (List ℕ)) × (messages_so_far l.self ≡ messages_so_far l.fn.self ++ found);
}

abbrev pub decreases-loop-self : goal.decreases-loop-self
decreases-loop-self g l = left_to_read l.self.stage l.self.text
