use Rattle.std.proofs.Common.{[], ◌∷◌, ◌++◌, length, length-append, ap, sym, ◌∙◌, append-nil, append_assoc, arith}
use Rattle.crossbeam_queue.specs.Passes.{view}
use Rattle.work_pool.proofs.Going.{goes_nowhere, goes_on}
use Rattle.work_pool.proofs.feeding.put_all.Goals as goal

pub loop-init : goal.loop-init
loop-init g c = record {
  ready = c.requires.ready;
  goes = goes_nowhere (g.K.Desk.serves c.args.desk.now) c.args.server.now;
  given = sym (append-nil (g.F.Feed.given c.args.feed.now)) ∙ ap (λ l. g.F.Feed.given c.args.feed.now ++ l) (sym c.requires.none);
  count = sym (ap length c.requires.none);
}

pub returns-in_err-put-clause-goes : goal.returns-in_err-put-clause-goes
returns-in_err-put-clause-goes g c = goes_on (g.K.Desk.serves c.args.desk.now) _ _ _ c.loop.invariant.goes c.put.ensures.goes

pub loop-preserved : goal.loop-preserved
loop-preserved g c =
    let i = c.loop.invariant in
    let more = c.in_ok-put.ensures.given in
    record {
      ready = c.put.ensures.ready;
      goes = goes_on (g.K.Desk.serves c.args.desk.now) _ _ _ i.goes c.put.ensures.goes;
      given = c.in-Some-next.ensures.some ∙ ap (λ l. l ++ c.in-Some-next.job ∷ []) i.given ∙ append_assoc (g.F.Feed.given c.args.feed.now) (view c.loop.server.token).given (c.in-Some-next.job ∷ []) ∙ ap (λ l. g.F.Feed.given c.args.feed.now ++ l) (sym more);
      count = omega (arith, c.in-Some-checked_add.ensures, i.count, ap length more, length-append (view c.loop.server.token).given (c.in-Some-next.job ∷ []));
    }
