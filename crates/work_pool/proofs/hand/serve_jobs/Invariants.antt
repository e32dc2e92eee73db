use Rattle.std.proofs.Common.{◌≡◌, List, length, take, vec_capacity}
use Rattle.work_pool.specs.inner.Hands.{tasks_of}
use Rattle.work_pool.specs.inner.Tasks.{ServedHand}
use Rattle.work_pool.proofs.hand.serve_jobs.Given as goal

abbrev pub invariant-loop-job : goal.invariant-loop-job
invariant-loop-job g l = record {
  taken : g.K.Desk.takes l.desk l.pass;
  served : (first : List _) → ServedHand (g.K.Desk.serves l.desk) l.fn.pass (take l.job-index (tasks_of l.jobs first)) l.pass (tasks_of (take l.job-index l.jobs) l.replies.items);
  count : length l.replies.items ≡ l.job-index;
  room : vec_capacity l.replies ≡ vec_capacity l.fn.replies;
}
