-- The rule of the seats: a purse's seat has the pair that the book's list has for its account.
use Rattle.std.specs.Prelude.{List, []}
use mathlib.Core.Option.{some}
use lib.ListN.{get_elem?}
use Rattle.acct_locks.specs.declared.seats.View.{View}
use Rattle.acct_locks.specs.declared.seats.View.TheVariants.{Book}
use Rattle.day_model.specs.Totals.{Pair}

-- the view is the book's
abbrev pub IsBookSeat : View → Type 0
IsBookSeat (Book pairs away back) = Unit {0}
IsBookSeat v = ⊥

-- each account's pair, as the book's view has it
abbrev pub pairs_in : View → List Pair
pairs_in (Book pairs away back) = pairs
pairs_in v = []
