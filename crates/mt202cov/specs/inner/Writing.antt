-- An MT202 COV written as fields.
use Rattle.std.specs.Prelude.{IfSome}
use Rattle.fin_contents.specs.Writing.{IsAmount, IsValue}
use Rattle.mt202cov.specs.declared.message.Mt202Cov.{Mt202Cov}
use Rattle.mt202cov.specs.Writing.{value_said}

-- its amounts can be written
pub record AreAmounts (m : Mt202Cov) : Type 0 where
  pub value : IsValue (value_said m)
  pub ordered : IfSome m.ordered IsAmount
