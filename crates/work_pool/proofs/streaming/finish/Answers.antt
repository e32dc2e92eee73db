use Rattle.std.proofs.Common.{ap, ◌∙◌, refl, arith}
use Rattle.work_pool.proofs.Ended.{has_ended}
use Rattle.work_pool.proofs.Rule.{tells}
use Rattle.work_pool.proofs.streaming.finish.Goals as goal

pub take_back-requires-clause-token : goal.take_back-requires-clause-token
take_back-requires-clause-token g c = (c.requires.ready.of_line, c.requires.ready.part)

pub learn_as-requires-clause-queue : goal.learn_as-requires-clause-queue
learn_as-requires-clause-queue g c = c.empty_line-served.ensures.ready.of_line

pub learn_as-requires-clause-rule : goal.learn_as-requires-clause-rule
learn_as-requires-clause-rule g c = tells _ _

pub returns-clause-ready : goal.returns-clause-ready
returns-clause-ready g c =
    let was = c.empty_line-served.ensures.ready in
    let same = c.learn_as.ensures.queue in
    record {
      taken = was.taken;
      of_line = (same.0.0 ∙ was.of_line.0, same.0.2 ∙ was.of_line.1);
      part = omega (arith, ap (λ v. v.parts) same.1, was.part);
    }

pub returns-clause-ended : goal.returns-clause-ended
returns-clause-ended g c =
    let e = c.empty_line-served.ensures in
    has_ended (g.K.Desk.serves c.args.desk.now) c.args.helpers.items c.args.first.now _ c.empty_line-served.new.server _ c.args.fed c.empty_line-served.result
    c.take_back.ensures.knows refl e.goes e.given c.learn_as.ensures.queue.1 refl c.requires.feeds c.requires.parts c.learn_as.ensures.rule e.same e.empty
