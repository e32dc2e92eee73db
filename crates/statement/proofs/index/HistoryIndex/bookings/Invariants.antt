use Rattle.std.proofs.Common.{◌≡◌, take}
use Rattle.std.specs.Prelude.{All}
use Rattle.day_model.specs.declared.pay.Leg.{Leg}
use Rattle.pay_returns.specs.References.{IsByteQuote}
use Rattle.statement.specs.Index.{TakesNext}
use Rattle.statement.specs.inner.Index.{bookings_of}
use Rattle.statement.specs.Seen.{SeenBook}
use Rattle.statement.proofs.index.HistoryIndex.bookings.Given as goal

-- the legs so far
abbrev pub invariant-loop-leg : goal.invariant-loop-leg
invariant-loop-leg l = record {
  made : (book : SeenBook) → TakesNext l.self l.e book → l.bookings ≡ bookings_of book.chart book.entries l.e (take l.leg-index l.leg-items);
  quotes : All (λ (leg : Leg). IsByteQuote leg.quote) (take l.leg-index l.leg-items);
}
