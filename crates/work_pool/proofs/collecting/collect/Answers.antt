use Rattle.std.proofs.Common.{◌≡◌, ◌+◌, ◌-◌, ℕ, arith, subst}
use Rattle.work_pool.proofs.Replies.{AreTaken, all_replied, alone_count, alone_replied, one_more_taken, some_left}
use Rattle.work_pool.proofs.collecting.collect.Goals as goal

pub take_all-requires : goal.take_all-requires
take_all-requires g c = alone_replied c.args.seats.now c.index-seats-0.result c.args.count c.in-len1.len_at_least c.in-len1.len_below c.requires.served c.requires.others

pub returns-in-len1-clause-count : goal.returns-in-len1-clause-count
returns-in-len1-clause-count g c =
    alone_count c.args.seats.now c.index-seats-0.result c.args.count c.in-len1.len_at_least c.in-len1.len_below c.requires.served c.requires.others c.take_all.result.items c.take_all.ensures

pub pop-requires-clause-some : goal.pop-requires-clause-some
pop-requires-clause-some g c =
    let l = c.loop-i in
    let at : l.i ≡ l.i - 1 + 1 = omega arith in
    let left = subst (λ (m : ℕ). AreTaken c.args.seats.now l.seats c.args.count m l.replies.items) at l.invariant.0 in
    some_left c.args.seats.now l.seats c.args.count (l.i - 1) l.replies.items c.index-seats-seat.result c.requires.seats (omega (arith, l.auto.i)) c.requires.served left

pub pop-requires-clause-served : goal.pop-requires-clause-served
pop-requires-clause-served g c =
    let l = c.loop-i in
    let at : l.i ≡ l.i - 1 + 1 = omega arith in
    let left = subst (λ (m : ℕ). AreTaken c.args.seats.now l.seats c.args.count m l.replies.items) at l.invariant.0 in
    all_replied c.args.seats.now l.seats c.args.count (l.i - 1) l.replies.items c.index-seats-seat.result c.requires.seats (omega (arith, l.auto.i)) c.requires.served left

pub loop-i-preserved : goal.loop-i-preserved
loop-i-preserved g c =
    let l = c.loop-i in
    let at : l.i ≡ l.i - 1 + 1 = omega arith in
    let left = subst (λ (m : ℕ). AreTaken c.args.seats.now l.seats c.args.count m l.replies.items) at l.invariant.0 in
    let task = c.pop.ensures in (
      one_more_taken c.args.seats.now l.seats c.args.count (l.i - 1) l.replies.items c.index-seats-seat.result c.requires.seats (omega (arith, l.auto.i)) c.requires.served left
          c.pop.new.self task.0 c.pop.result c.push_reserved.new.self.items task.1 task.2 c.push_reserved.ensures.items,
      omega (arith, l.invariant.1, c.push_reserved.ensures.capacity),
    )
