use Rattle.corr_top.proofs.StreamSteps.{read_to}
use Rattle.corr_top.proofs.stream.MessageFile.read_rest.Goals as goal

pub returns-clause-read : goal.returns-clause-read
returns-clause-read g c = λ left faults on.
    let read = c.in_ok-fill.ensures.read left faults on in
    (read_to 67108864 left _ _ c.in_ok-fill.field-0 read.read c.fill.ensures.bound c.in_ok-fill.ensures.ended c.in_ok-fill.ensures.full, read.kept)
