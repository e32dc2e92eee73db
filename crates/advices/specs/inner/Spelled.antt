-- What can be written as a line of a field.
use Rattle.std.specs.Prelude.{◌≡◌, ℕ, true, List}
use Rattle.std.specs.Char.{is_ascii_uppercase}
use Rattle.std.specs.List.{All, list_all}
use Rattle.corr_text.specs.Sets.{is_in}
use Rattle.corr_text.specs.declared.set.Set.TheVariants.{X}
use Rattle.corr_ids.specs.Bic.{IsBic}
use Rattle.corr_ids.specs.Day.{InCentury}
use Rattle.corr_money.specs.declared.amount.Amount.{Amount}
use Rattle.fin_contents.specs.declared.value.Value.{Value}
use Rattle.fin_contents.specs.Writing.{IsAmount}
use Rattle.fin_fields.specs.Writing.{IsField}
use Rattle.advices.specs.declared.received.Received.{Received}

-- bytes of X
abbrev pub IsPlain : List ℕ → Type 0
IsPlain bs = list_all (is_in X) bs ≡ true

-- an amount that can be written, of a currency of capital letters
pub record IsWritableAmount (a : Amount) : Type 0 where
  pub amount : IsAmount a
  pub letters : list_all is_ascii_uppercase a.ccy.0 ≡ true

-- the same on a day of the century
pub record IsMoved (v : Value) : Type 0 where
  pub day : InCentury v.day
  pub amount : IsWritableAmount v.amount

-- a message whose fields may stand in a text, from a bank whose BIC meets its grammar
pub record IsReceivedWhole (r : Received) : Type 0 where
  pub fields : All IsField r.fields
  pub sender : IsBic r.sender
