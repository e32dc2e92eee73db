use Rattle.std.proofs.Common.{subst, sym}
use Rattle.corr_top.specs.declared.cutting.FileStop.{FileStop}
use Rattle.corr_top.specs.declared.stream.Stage.TheVariants as stage
use Rattle.corr_top.specs.inner.Stream.{IsStreamOf}
use Rattle.corr_top.proofs.StreamSteps.{stopped_now}
use Rattle.corr_top.proofs.stream.MessageFile.stop.Goals as goal

pub returns-clause-stream : goal.returns-clause-stream
returns-clause-stream g c = λ left faults is.
    subst (λ (stop : FileStop). IsStreamOf g.S.Source left faults (record c.args.self.now { stage = stage.Stopped stop })) (sym c.stop.ensures) (stopped_now g.S.Source left faults c.args.self.now is)
