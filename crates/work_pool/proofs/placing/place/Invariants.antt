use Rattle.std.proofs.Common.{◌≡◌, ◌++◌}
use Rattle.work_pool.specs.inner.Placing.{ArePlaced, KeepsOthers}
use Rattle.work_pool.proofs.placing.place.Given as goal

abbrev pub invariant-loop-answer : goal.invariant-loop-answer
invariant-loop-answer g l = record {
  all : l.yielded ++ l.answer-iterator.rest.items ≡ l.fn.answers.items;
  placed : ArePlaced l.yielded l.slots.items;
  others : KeepsOthers l.yielded l.fn.slots.items l.slots.items;
}
