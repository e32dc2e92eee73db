use Rattle.work_pool.proofs.Deals.{dealt_next}
use Rattle.work_pool.proofs.dealing.deal_lists.Goals as goal

pub loop-job-preserved : goal.loop-job-preserved
loop-job-preserved g c =
    let i = c.loop-job.invariant in
    dealt_next (λ list. list.items) c.args.count c.loop-job.dealt c.args.jobs.items i.0 c.loop-job.job-iterator.rest.items c.next.new.self.rest.items c.in-Some.job c.loop-job.lists.items c.index_mut.result.now c.push.new.self
    c.requires c.in-Some.ensures.steps.0 i.1 i.2 i.3 c.index_mut.ensures.value c.in_ok-push.ensures.items
