use Rattle.std.proofs.Common.{◌+◌, length, refl, ap, sym, ◌∙◌}
use Rattle.work_pool.proofs.Going.{goes_nowhere, goes_on, goes_view}
use Rattle.work_pool.proofs.Rule.{puts_on}
use Rattle.work_pool.proofs.feeding.put.Goals as goal

pub loop-init : goal.loop-init
loop-init g c = record { ready = c.requires.ready; goes = goes_nowhere (g.K.Desk.serves c.args.desk.now) c.args.server.now; none = refl; same = refl }

pub push_as-requires-clause-rule : goal.push_as-requires-clause-rule
push_as-requires-clause-rule g c =
    let i = c.loop.invariant in (
      puts_on _ _ _ _ (i.goes.feeds ∙ c.requires.feeds) (ap (λ x. x.number) i.same ∙ c.requires.number ∙ ap (λ l. length l + 1) (sym i.none)),
      λ items views h at. tt,
    )

pub loop-preserved : goal.loop-preserved
loop-preserved g c =
    let i = c.loop.invariant in
    let stays = c.in-Err.ensures.rule.1 in
    record {
      ready = c.serve_next.ensures.ready;
      goes = goes_on (g.K.Desk.serves c.args.desk.now) _ _ _ (goes_on (g.K.Desk.serves c.args.desk.now) _ _ _ i.goes (goes_view (g.K.Desk.serves c.args.desk.now) _ _ stays refl)) c.serve_next.ensures.goes;
      none = c.serve_next.ensures.given ∙ ap (λ v. v.given) stays ∙ i.none;
      same = c.in-Err.ensures.rule.0 ∙ i.same;
    }

pub returns-in_err-serve_next-clause-goes : goal.returns-in_err-serve_next-clause-goes
returns-in_err-serve_next-clause-goes g c =
    let stays = c.in-Err.ensures.rule.1 in
    goes_on (g.K.Desk.serves c.args.desk.now) _ _ _ (goes_on (g.K.Desk.serves c.args.desk.now) _ _ _ c.loop.invariant.goes (goes_view (g.K.Desk.serves c.args.desk.now) _ _ stays refl)) c.serve_next.ensures.goes
