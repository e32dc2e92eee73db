use Rattle.std.proofs.Common.{ℕ, List, IfSome, IsTrue, subst, sym}
use Rattle.jrn_file.specs.Reading.{opened_of}
use Rattle.jrn_book.specs.Opening.{IsFound, found_by}
use Rattle.standby.proofs.follower.Follower.begin.Goals as goal

pub returns-in-Err-open_past-clause-refused : goal.returns-in-Err-open_past-clause-refused
returns-in-Err-open_past-clause-refused g c = λ told.
    subst (λ (b : List ℕ). IfSome (found_by c.in-Err-open_past.refused.1) (IsFound (opened_of b))) c.front_of.ensures.untouched.same
    (c.in-Err-open_past.ensures.told (subst IsTrue (sym c.front_of.ensures.honest) told))
