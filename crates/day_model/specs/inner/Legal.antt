-- Which histories are legal.
use Rattle.std.specs.Prelude.{IsTrue, List}
use Rattle.day_model.specs.declared.account.Account.{Account}
use Rattle.day_model.specs.declared.change.What.{What}
use Rattle.day_model.specs.declared.change.What.TheVariants.{Opened, Limits}
use Rattle.day_model.specs.Fit.{is_in}

-- the account that limits name is there
abbrev pub CanMake : List Account → What → Type 0
CanMake accounts (Opened account) = Unit {0}
CanMake accounts (Limits n floor ceil) = IsTrue (is_in accounts n.0)
