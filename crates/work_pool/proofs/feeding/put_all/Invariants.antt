use Rattle.std.proofs.Common.{◌≡◌, ◌++◌, length}
use Rattle.crossbeam_queue.specs.Passes.{view}
use Rattle.work_pool.specs.inner.Serving.{Goes, IsReady}
use Rattle.work_pool.proofs.feeding.put_all.Given as goal

abbrev pub invariant-loop : goal.invariant-loop
invariant-loop g l = record {
  ready : IsReady (g.K.Desk.takes l.desk) l.line l.server;
  goes : Goes (g.K.Desk.serves l.desk) l.fn.server l.server;
  given : g.F.Feed.given l.feed ≡ g.F.Feed.given l.fn.feed ++ (view l.server.token).given;
  count : l.count ≡ length (view l.server.token).given;
}
