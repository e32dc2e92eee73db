-- A message that is read into a place, and the text that it gets last.
use Rattle.std.specs.Prelude.{Bool, true, false}
use Rattle.fin_message.specs.declared.message.Message.{Message}
use Rattle.fin_message.specs.declared.message.Message.TheVariants.{Cover, Credit, Debit, Page, Transfer}

-- whether it is a transfer
abbrev pub is_transfer : Message → Bool
is_transfer (Transfer envelope text transfer) = true
is_transfer (Cover envelope text cover) = false
is_transfer (Debit envelope advice) = false
is_transfer (Credit envelope advice) = false
is_transfer (Page envelope page) = false
