-- The legs of entries on an account.
use Rattle.std.specs.Prelude.{ℕ, ◌==◌, List, All, int_lt}
use Rattle.std.specs.List.{filter}
use Rattle.corr_ids.specs.declared.day.Day.{Day}
use Rattle.day_model.specs.Totals.{booked_legs}
use Rattle.day_model.specs.declared.entry.Entry.{Entry}
use Rattle.day_model.specs.declared.pay.Leg.{Leg}
use Rattle.pay_returns.specs.References.{IsByteQuote}

-- the entries of earlier days
abbrev pub before_day : Day → List Entry → List Entry
before_day day entries = filter (λ entry. int_lt entry.day.0 day.0) entries

-- the legs that an entry books on account n
abbrev pub legs_on : ℕ → Entry → List Leg
legs_on n entry = filter (λ leg. leg.account.0 == n) (booked_legs entry)

-- the booked legs of an entry quote orders whose numbers are bytes
abbrev pub HasQuotes : Entry → Type 0
HasQuotes entry = All (λ leg. IsByteQuote leg.quote) (booked_legs entry)
