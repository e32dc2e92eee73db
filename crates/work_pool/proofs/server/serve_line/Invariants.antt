use Rattle.work_pool.specs.inner.Serving.{Goes, PutsNone, IsReady}
use Rattle.work_pool.proofs.server.serve_line.Given as goal

abbrev pub invariant-loop : goal.invariant-loop
invariant-loop g l = record {
  ready : IsReady (g.K.Desk.takes l.desk) l.line l.server;
  goes : Goes (g.K.Desk.serves l.desk) l.fn.server l.server;
  none : PutsNone l.fn.server l.server;
}
