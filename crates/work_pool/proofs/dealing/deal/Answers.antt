use Rattle.std.proofs.Common.{[], ap, arith, length, length-append, ◌∷◌}
use Rattle.std.proofs.lemmas.List.{length-map}
use Rattle.work_pool.proofs.Deals.{hands_first, hands_next}
use Rattle.work_pool.proofs.dealing.deal.Goals as goal

pub loop-jobs-init : goal.loop-jobs-init
loop-jobs-init g c =
    let lists = c.in_ok-jobs-items.jobs-items.items in
    let rest = c.into_iter-jobs-iterator.ensures.into_iter_gives.0 in
    let d = c.in_ok-jobs-items.ensures in
    record {
      hands = hands_first (λ list. list.items) c.args.count c.args.jobs.items c.in_ok-hands.hands.items c.into_iter-jobs-iterator.result.rest.items lists c.in_ok-hands.ensures.items rest d;
      room = omega (arith, ap length c.in_ok-hands.ensures.items, ap length rest, d.lists_count, length-map lists (λ list. list.items), c.in_ok-hands.ensures.capacity);
    }

pub loop-jobs-preserved : goal.loop-jobs-preserved
loop-jobs-preserved g c =
    let l = c.loop-jobs in
    let hand = c.in_ok-of.field-0 in
    let steps = c.in-Some.ensures.steps.0 in
    record {
      hands = hands_next (λ list. list.items) c.args.count c.args.jobs.items l.hands.items c.push_reserved.new.self.items hand l.jobs-iterator.rest.items c.next.new.self.rest.items c.in-Some.jobs
          steps c.in_ok-of.ensures c.push_reserved.ensures.items l.invariant.hands;
      room = omega (arith, ap length c.push_reserved.ensures.items, length-append l.hands.items (hand ∷ []), ap length steps, c.push_reserved.ensures.capacity, l.invariant.room);
    }
