use Rattle.std.proofs.Common.{◌≡◌, ◌≤◌, All, length, take, vec_capacity}
use Rattle.corr_top.specs.inner.Batching.{IsSoundReading}
use Rattle.corr_top.specs.Message.{readings_of}
use Rattle.corr_top.proofs.desk.RunDesk.read_all.Given as goal

-- the messages so far were read
abbrev pub invariant-loop-at : goal.invariant-loop-at
invariant-loop-at g l = record {
  read : l.readings.items ≡ readings_of l.self.directory.now g.N.BooksName.opening.accounts (take l.at l.batch);
  sound : All (IsSoundReading g.N.BooksName.opening.accounts) l.readings.items;
  room : length l.batch ≤ vec_capacity l.readings;
}
