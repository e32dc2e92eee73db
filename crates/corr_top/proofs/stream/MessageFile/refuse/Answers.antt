use Rattle.corr_top.specs.inner.Stream.{IsReadOn}
use Rattle.corr_top.proofs.StreamSteps.{messages_same, stopped_with}
use Rattle.corr_top.proofs.stream.MessageFile.refuse.Goals as goal

pub returns-clause-stream : goal.returns-clause-stream
returns-clause-stream g c = λ left faults has.
    let e = c.find_stop-stop.ensures in
    let on : IsReadOn g.S.Source left faults c.args.self.now = record { read = has.read; kept = has.kept } in
    stopped_with g.S.Source left faults c.args.self.now c.find_stop-stop.new.self e.grown.0 e.same e.grown.1 c.find_stop-stop.result has (e.stops left faults on) (e.text left faults on)

pub returns-clause-more : goal.returns-clause-more
returns-clause-more g c = λ all. let e = c.find_stop-stop.ensures in messages_same c.args.self.now c.find_stop-stop.new.self e.grown.0 e.same e.grown.1 all
