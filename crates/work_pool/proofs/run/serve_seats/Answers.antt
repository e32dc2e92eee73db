use Rattle.std.proofs.Common.{rules}
use Rattle.std.proofs.lemmas.Option.{slice_get_within}
use Rattle.work_pool.proofs.Whole.{all_taken, served_at, taken_at}
use Rattle.work_pool.proofs.run.serve_seats.Goals as goal

pub for_each_mut-requires-clause-accepts : goal.for_each_mut-requires-clause-accepts
for_each_mut-requires-clause-accepts g c = λ κs w i p within is. (taken_at (g.K.Desk.takes c.args.desk.now) c.args.seats.now i p.now c.requires.taken within is, search rules)

pub returns-clause-taken : goal.returns-clause-taken
returns-clause-taken g c = all_taken (g.K.Desk.takes c.args.desk.now) c.args.seats.now c.for_each_mut.new.s (search rules)
    (λ k seat within. let e = (c.for_each_mut.ensures k seat within).1 in (e.after_call.now, e.left, e.call.0))

pub returns-clause-served : goal.returns-clause-served
returns-clause-served g c = record {
  count = search rules;
  served = λ k before after at_old at_new.
      let e = (c.for_each_mut.ensures k before (slice_get_within c.args.seats.now k before at_old)).1 in
      served_at (g.K.Desk.serves c.args.desk.now) c.args.seats.now c.for_each_mut.new.s k before after e.argument.now e.after_call.now at_old at_new e.argument_is e.left e.call.1;
}
