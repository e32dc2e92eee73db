use Rattle.std.proofs.Common.{◌≡◌, length, slice_get, ap, sym, ◌∙◌, subst, arith, refl}
use denote.Param.Send.{sendable}
use Rattle.std.proofs.Crossing.{crosses}
use Rattle.std.proofs.lemmas.Option.{slice_get_read, slice_get_within}
use Rattle.work_pool.specs.inner.Seating.{AllGo, AreReady}
use Rattle.work_pool.specs.inner.Serving.{Goes, IsReady}
use Rattle.work_pool.proofs.Finished.{all_at, both_at}
use Rattle.work_pool.proofs.Places.{given_back}
use Rattle.work_pool.proofs.streaming.help.Goals as goal

pub for_each_mut-requires-clause-accepts : goal.for_each_mut-requires-clause-accepts
for_each_mut-requires-clause-accepts g c = λ κs w i p within is.
    let slice = c.as_mut_slice.result.now in
    (c.requires i p.now (ap (λ l. slice_get l i) (sym c.as_mut_slice.ensures.value) ∙ slice_get_read slice (length slice) i p.now refl within is), (search (sendable, crosses) depth 40, search (sendable, crosses) depth 40, search (sendable, crosses) depth 40, search (sendable, crosses) depth 40, search (sendable, crosses) depth 40, search (sendable, crosses) depth 40))

pub returns-clause-ready : goal.returns-clause-ready
returns-clause-ready g c =
    let news = c.for_each_mut.new.s in
    let even : length news ≡ length c.as_mut_slice.result.now = c.for_each_mut.auto.s in
    let long : c.args.helpers.len ≡ length news = omega (arith, even, c.as_mut_slice.ensures.len) in
    subst (AreReady c.args.line.now (g.K.Desk.takes c.args.desk.now)) (sym (given_back c.args.helpers.len news c.args.helpers.items long))
    (all_at (IsReady (g.K.Desk.takes c.args.desk.now) c.args.line.now) c.as_mut_slice.result.now news even
    (λ k server within. let e = (c.for_each_mut.ensures k server within).1 in (e.after_call.now, e.left, e.call.0)))

pub returns-clause-goes : goal.returns-clause-goes
returns-clause-goes g c =
    let news = c.for_each_mut.new.s in
    let olds = c.as_mut_slice.result.now in
    let even : length news ≡ length olds = c.for_each_mut.auto.s in
    let long : c.args.helpers.len ≡ length news = omega (arith, even, c.as_mut_slice.ensures.len) in
    let same = c.as_mut_slice.ensures.value in
    subst (AllGo (g.K.Desk.serves c.args.desk.now) c.args.helpers.items) (sym (given_back c.args.helpers.len news c.args.helpers.items long)) (record {
      count = even ∙ ap (λ l. length l) same;
      each = λ k before after at at'.
          let at_old = ap (λ l. slice_get l k) same ∙ at in
          let e = (c.for_each_mut.ensures k before (slice_get_within olds k before at_old)).1 in
          both_at (Goes (g.K.Desk.serves c.args.desk.now)) olds news k before after e.argument.now e.after_call.now at_old at' e.argument_is e.left e.call.1;
    })
