use Rattle.std.proofs.Common.{◌≤◌, vec_capacity}
use Rattle.work_pool.proofs.Replies.{AreTaken}
use Rattle.work_pool.proofs.collecting.collect.Given as goal

abbrev pub invariant-loop-i : goal.invariant-loop-i
invariant-loop-i g l = AreTaken l.fn.seats l.seats l.count l.i l.replies.items × (l.count ≤ vec_capacity l.replies)
