-- An MT103 written as fields.
use Rattle.std.specs.Prelude.{All, IfSome}
use Rattle.fin_contents.specs.Writing.{IsAmount, IsValue}
use Rattle.mt103.specs.declared.message.Mt103.{Mt103}
use Rattle.mt103.specs.Writing.{value_said}

-- its amounts can be written
pub record AreAmounts (m : Mt103) : Type 0 where
  pub value : IsValue (value_said m)
  pub ordered : IfSome m.ordered IsAmount
  pub taken : All IsAmount m.taken
  pub given : IfSome m.given IsAmount
