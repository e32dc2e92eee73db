-- The books that a page shows.
use Rattle.std.specs.Prelude.{ℤ, ◌-ℤ◌}
use Rattle.day_model.specs.declared.account.Account.{Account}
use Rattle.day_model.specs.declared.pay.Side.{Side}
use Rattle.day_model.specs.declared.pay.Side.TheVariants.{Credit, Debit}

-- how much an account with a balance can take on a side: down to its floor, or up to its ceiling
abbrev pub room_of : Side → Account → ℤ → ℤ
room_of Debit account balance = balance -ℤ account.floor
room_of Credit account balance = account.ceil -ℤ balance
