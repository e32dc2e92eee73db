use Rattle.std.proofs.Common.{arith}
use Rattle.work_pool.proofs.Deals.{more_empty}
use Rattle.work_pool.proofs.dealing.empty_lists.Goals as goal

pub loop-preserved : goal.loop-preserved
loop-preserved g c = record {
  lists = more_empty (λ list. list.items) c.loop.counter c.loop.lists.items c.push_reserved.new.self.items c.in_ok-with_capacity.field-0 c.loop.invariant.lists c.in_ok-with_capacity.ensures.items c.push_reserved.ensures.items;
  room = omega (arith, c.loop.invariant.room, c.push_reserved.ensures.capacity);
}
