use Rattle.std.proofs.Common.{◌+◌, List, arith, subst, sym, take, ◌∙◌}
use Rattle.work_pool.specs.inner.Hands.{tasks_of}
use Rattle.work_pool.specs.inner.Tasks.{ServedHand}
use Rattle.work_pool.proofs.Serving.{next_served, served_all}
use Rattle.work_pool.proofs.hand.serve_jobs.Goals as goal

pub loop-job-preserved : goal.loop-job-preserved
loop-job-preserved g c =
    let l = c.loop-job in
    let i = l.invariant in
    let e = c.serve-reply.ensures in
    let added = c.push_reserved.ensures.items in
    record {
      taken = e.takes;
      served = λ first. subst (λ (rs : List _). ServedHand (g.K.Desk.serves c.args.desk.now) c.args.pass.now (take (l.job-index + 1) (tasks_of c.args.jobs.now first)) c.serve-reply.new.pass (tasks_of (take (l.job-index + 1) c.args.jobs.now) rs)) (sym added)
          (next_served (g.K.Desk.serves c.args.desk.now) c.args.pass.now c.args.jobs.now first l.replies.items l.job-index l.pass c.serve-reply.new.pass c.job-item.result c.serve-reply.result
          c.loop-job-test.true c.job-item.is i.count (i.served first) e.serves);
      count = omega (arith, c.push_reserved.ensures.len, i.count);
      room = c.push_reserved.ensures.capacity ∙ i.room;
    }

pub returns-clause-served : goal.returns-clause-served
returns-clause-served g c = λ first.
    let l = c.loop-job in
    served_all (g.K.Desk.serves c.args.desk.now) c.args.pass.now c.args.jobs.now first l.replies.items l.job-index l.pass c.loop-job-test.false (l.invariant.served first)
