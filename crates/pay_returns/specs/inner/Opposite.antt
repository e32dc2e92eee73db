-- The pay that takes a booked payment back.
use Rattle.std.specs.Prelude.{All, List}
use Rattle.day_model.specs.Chart.{Chart, IsListed}
use Rattle.day_model.specs.declared.pay.Leg.{Leg}
use Rattle.pay_returns.specs.References.{IsByteQuote}

-- the accounts of legs are of the book
abbrev pub AreListed : Chart → List Leg → Type 0
AreListed chart legs = All (λ leg. IsListed chart leg.account.0) legs

-- the orders that legs quote have bytes as their numbers
abbrev pub AreByteQuotes : List Leg → Type 0
AreByteQuotes legs = All (λ leg. IsByteQuote leg.quote) legs
