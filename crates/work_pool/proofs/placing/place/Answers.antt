use Rattle.work_pool.proofs.Slots.{one_put}
use Rattle.work_pool.proofs.placing.place.Goals as goal

pub loop-answer-preserved : goal.loop-answer-preserved
loop-answer-preserved g c =
    let l = c.loop-answer in
    let t = one_put l.yielded c.in-Some.answer c.next.new.self.rest.items l.answer-iterator.rest.items c.args.answers.items c.args.slots.now.len c.args.slots.now.items l.slots.items
    c.in-Some.ensures.steps.0 l.invariant.all c.args.slots.now.ok.0 c.requires.within c.requires.apart l.invariant.placed l.invariant.others in
    record { all = t.0; placed = t.1; others = t.2 }

pub loop-answer-preserved-in-Some : goal.loop-answer-preserved-in-Some
loop-answer-preserved-in-Some g c =
    let l = c.loop-answer in
    let t = one_put l.yielded c.in-Some.answer c.next.new.self.rest.items l.answer-iterator.rest.items c.args.answers.items c.args.slots.now.len c.args.slots.now.items l.slots.items
    c.in-Some.ensures.steps.0 l.invariant.all c.args.slots.now.ok.0 c.requires.within c.requires.apart l.invariant.placed l.invariant.others in
    record { all = t.0; placed = t.1; others = t.2 }
