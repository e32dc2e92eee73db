use Rattle.std.proofs.Common.{vec_len}
use Rattle.work_pool.proofs.Placed.{AreBelow}
use Rattle.work_pool.proofs.placing.place_all.Given as goal

abbrev pub invariant-loop-k : goal.invariant-loop-k
invariant-loop-k g l = AreBelow l.fn.works (vec_len l.fn.slots) l.k l.works l.slots.items
