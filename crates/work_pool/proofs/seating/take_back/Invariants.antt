use Rattle.std.proofs.Common.{◌≡◌, ◌+◌, ◌≤◌, ◌<◌, ◌++◌, length, map, vec_capacity}
use Rattle.crossbeam_queue.specs.Passes.{view, IsPassOf}
use Rattle.work_pool.specs.inner.Seating.{AreHelping, TakesBack}
use Rattle.work_pool.proofs.seating.take_back.Given as goal

abbrev pub invariant-loop-server : goal.invariant-loop-server
invariant-loop-server g l = record {
  of_line : IsPassOf l.line l.token;
  part : 0 < (view l.token).parts;
  all : l.yielded ++ l.server-iterator.rest.items ≡ l.fn.helpers.items;
  knows : TakesBack l.yielded (view l.fn.token) (view l.token);
  helpers : AreHelping l.line l.server-iterator.rest.items;
  works : l.rest.items ++ map (λ server. server.work) l.server-iterator.rest.items ≡ map (λ server. server.work) l.fn.helpers.items;
  room : length l.rest.items + length l.server-iterator.rest.items ≤ vec_capacity l.rest;
}
