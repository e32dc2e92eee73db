use Rattle.std.proofs.Common.{refl, ◌∙◌}
use Rattle.work_pool.proofs.Going.{goes_nowhere, goes_on}
use Rattle.work_pool.proofs.server.serve_line.Goals as goal

pub loop-init : goal.loop-init
loop-init g c = record { ready = c.requires.ready; goes = goes_nowhere (g.K.Desk.serves c.args.desk.now) c.args.server.now; none = refl }

pub returns-in_err-serve_next-clause-goes : goal.returns-in_err-serve_next-clause-goes
returns-in_err-serve_next-clause-goes g c = goes_on (g.K.Desk.serves c.args.desk.now) _ _ _ c.loop.invariant.goes c.serve_next.ensures.goes

pub returns-then-not-branch-clause-goes : goal.returns-then-not-branch-clause-goes
returns-then-not-branch-clause-goes g c = goes_on (g.K.Desk.serves c.args.desk.now) _ _ _ c.loop.invariant.goes c.serve_next.ensures.goes

pub loop-preserved : goal.loop-preserved
loop-preserved g c = record {
  ready = c.serve_next.ensures.ready;
  goes = goes_on (g.K.Desk.serves c.args.desk.now) _ _ _ c.loop.invariant.goes c.serve_next.ensures.goes;
  none = c.serve_next.ensures.given ∙ c.loop.invariant.none;
}
