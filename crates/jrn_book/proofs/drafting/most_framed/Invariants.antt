use Rattle.std.proofs.Common.{◌≤◌, ◌*◌, take}
use Rattle.jrn_book.specs.inner.Drafting.{rooms_for}
use Rattle.jrn_book.proofs.drafting.most_framed.Given as goal

abbrev pub invariant-loop-p : goal.invariant-loop-p
invariant-loop-p l = (rooms_for (take l.p-index l.pays) ≤ l.most) × (l.most ≤ l.p-index * 39330)
