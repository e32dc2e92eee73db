use Rattle.std.proofs.Common.{◌≡◌, ◌++◌, replicate, Err, vec_capacity}
use Rattle.jrn_book.specs.declared.answer.CommitFault.TheVariants.{Memory}
use Rattle.corr_books.proofs.batch.want_memory.Given as goal

abbrev pub invariant-loop-at : goal.invariant-loop-at
invariant-loop-at l = (l.answers.items ≡ l.initial.answers.items ++ replicate l._at (Err Memory)) × (vec_capacity l.answers ≡ vec_capacity l.initial.answers)
