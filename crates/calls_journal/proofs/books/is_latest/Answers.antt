use Rattle.std.proofs.Common.{arith}
use Rattle.std.proofs.lemmas.Int.{ints}
use Rattle.jrn_book.proofs.laws.Days.{latest_by_last}
use Rattle.calls_journal.proofs.books.is_latest.Goals as goal

pub returns : goal.returns
returns c =
    latest_by_last c.args.a.now c.args.h.now.entries c.len-count.result c.get.result.now c.args.day c.requires.legal c.len-count.ensures.count c.get.ensures (omega (arith, ints, c.if-last-day.false))
