use Rattle.std.proofs.Common.{ℕ, List, subst}
use Rattle.corr_top.specs.MessageFile.{StopsCutting}
use Rattle.corr_top.proofs.StreamSteps.{stops_at_cut}
use Rattle.corr_top.proofs.stream.MessageFile.find_stop.Goals as goal

pub returns-in-Ok-clause-stops : goal.returns-in-Ok-clause-stops
returns-in-Ok-clause-stops g c = λ left faults on.
    let read = c.in-Ok.ensures.read left faults on in
    stops_at_cut left _ faults _ _ c.first_stop.result read.0 read.1 (subst (λ (bytes : List ℕ). StopsCutting bytes c.first_stop.result) c.bytes.ensures c.first_stop.ensures)
