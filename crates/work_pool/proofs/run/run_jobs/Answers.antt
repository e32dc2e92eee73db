use Rattle.std.proofs.Common.{◌≡◌, length, map, ap, sym, ◌∙◌, subst, arith}
use Rattle.work_pool.specs.Served.{AllTaken}
use Rattle.work_pool.specs.inner.Tasks.{AreSeated}
use Rattle.work_pool.proofs.Places.{given_back}
use Rattle.work_pool.proofs.Whole.{all_served, no_others, replied}
use Rattle.work_pool.proofs.run.run_jobs.Goals as goal

pub collect-requires-clause-served : goal.collect-requires-clause-served
collect-requires-clause-served g c = λ i within.
    let seated = subst (AreSeated c.args.passes.items c.in-Ok.room.hands.items) (sym c.as_mut_slice-all.ensures.value) c.seat_all.ensures in
    replied (g.K.Desk.serves c.args.desk.now) c.len-workers.result c.args.passes.items c.args.jobs.items c.in-Ok.room.hands.items c.as_mut_slice-all.result.now c.serve_seats.new.seats
    (omega arith) (omega (arith, c.args.passes.ok.0)) c.in-Ok.ensures.hands seated c.serve_seats.ensures.served i (omega (arith, c.args.jobs.ok.0))

pub collect-requires-clause-others : goal.collect-requires-clause-others
collect-requires-clause-others g c = λ i past.
    let seated = subst (AreSeated c.args.passes.items c.in-Ok.room.hands.items) (sym c.as_mut_slice-all.ensures.value) c.seat_all.ensures in
    no_others (g.K.Desk.serves c.args.desk.now) c.len-workers.result c.args.passes.items c.args.jobs.items c.in-Ok.room.hands.items c.as_mut_slice-all.result.now c.serve_seats.new.seats
    (omega arith) (omega (arith, c.args.passes.ok.0)) c.in-Ok.ensures.hands seated c.serve_seats.ensures.served i (omega (arith, c.args.jobs.ok.0))

-- the seats that were lent are back, with the passes that the serves left
after : (g : _) (c : goal.After-vacate g) → c.vacate.new.passes.items ≡ map (λ seat. seat.pass) c.serve_seats.new.seats
after g c =
    let long : c.seat_all.new.seats.len ≡ length c.collect.new.seats = omega (arith, c.serve_seats.ensures.served.count, c.as_mut_slice-all.ensures.len, c.collect.auto.seats) in
    c.vacate.ensures ∙ ap (map (λ seat. seat.pass)) (given_back c.seat_all.new.seats.len c.collect.new.seats c.seat_all.new.seats.items long) ∙ c.collect.ensures.passes

pub returns-clause-served : goal.returns-clause-served
returns-clause-served g c =
    let seated = subst (AreSeated c.args.passes.items c.in-Ok.room.hands.items) (sym c.as_mut_slice-all.ensures.value) c.seat_all.ensures in
    all_served (g.K.Desk.serves c.args.desk.now) c.len-workers.result c.args.passes.items c.args.jobs.items c.in-Ok.room.hands.items c.as_mut_slice-all.result.now c.serve_seats.new.seats
    (omega arith) (omega (arith, c.args.passes.ok.0)) c.in-Ok.ensures.hands seated c.serve_seats.ensures.served c.vacate.new.passes.items c.collect.new.replies.items (after g c)
    (omega (arith, c.collect.ensures.count, c.args.jobs.ok.0))
    (λ i within. c.collect.ensures.replies i (omega (arith, c.args.jobs.ok.0)))

pub returns-clause-taken : goal.returns-clause-taken
returns-clause-taken g c = subst (AllTaken (g.K.Desk.takes c.args.desk.now)) (sym (after g c)) c.serve_seats.ensures.taken
