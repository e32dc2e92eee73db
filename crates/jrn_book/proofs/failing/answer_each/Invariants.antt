use Rattle.std.proofs.Common.{◌≡◌, ◌++◌, replicate, Err, vec_capacity}
use Rattle.jrn_book.proofs.failing.answer_each.Given as goal

abbrev pub invariant-loop-at : goal.invariant-loop-at
invariant-loop-at l = (l.answers.items ≡ l.initial.answers.items ++ replicate l._at (Err l.fault)) × (vec_capacity l.answers ≡ vec_capacity l.initial.answers)
