use Rattle.std.proofs.Common.{◌≡◌, ◌≤◌, None, length, take, vec_capacity}
use Rattle.corr_books.specs.Passes.{Belongs}
use Rattle.corr_top.specs.inner.Batching.{ServesInTurn}
use Rattle.corr_top.specs.Message.{readings_of}
use Rattle.corr_top.proofs.desk.RunDesk.answer_front.Given as goal

-- the messages so far were answered, and the worker goes on
abbrev pub invariant-loop-at : goal.invariant-loop-at
invariant-loop-at g l = record {
  belongs : Belongs g.N.BooksName.opening l.pass.pass;
  on : l.pass.halted ≡ None;
  served : ServesInTurn g.N.BooksName.opening (readings_of l.self.directory.now g.N.BooksName.opening.accounts (take l.at l.batch)) l.fn.pass l.pass l.made.items;
  count : length l.made.items ≡ l.at;
  room : length l.batch ≤ vec_capacity l.made;
  capacity : vec_capacity l.made ≡ vec_capacity l.fn.made;
}
