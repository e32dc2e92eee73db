use Rattle.std.proofs.Common.{◌≤ℤ◌}
use Rattle.day_model.specs.Laws.{IsLatest}
use Rattle.jrn_book.proofs.Bools.{on_true}
use Rattle.jrn_book.proofs.laws.Days.{latest_by_last}
use Rattle.jrn_book.proofs.next.is_latest.Goals as goal

pub returns-else-count-eq0-clause-latest : goal.returns-else-count-eq0-clause-latest
returns-else-count-eq0-clause-latest c =
    on_true c.is_no_later.result (c.get.result.now.day.0 ≤ℤ c.args.day.0) (IsLatest c.args.h.now.entries c.args.day)
    (latest_by_last c.args.a.now c.args.h.now.entries c.len-count.result c.get.result.now c.args.day c.requires.legal c.len-count.ensures.count c.get.ensures)
    c.is_no_later.ensures.before
