-- A message that is read into a place, and the text that it gets last.
use Rattle.std.specs.Prelude.{ℕ, List}
use Rattle.fin_message.specs.declared.message.Message.{Message}
use Rattle.fin_message.specs.declared.message.Message.TheVariants.{Cover, Credit, Debit, Page, Transfer}

-- the message with this text, if it has one beside what it says
abbrev pub with_text : List ℕ → Message → Message
with_text text (Transfer envelope other transfer) = Transfer envelope text transfer
with_text text (Cover envelope other cover) = Cover envelope text cover
with_text text (Debit envelope advice) = Debit envelope advice
with_text text (Credit envelope advice) = Credit envelope advice
with_text text (Page envelope page) = Page envelope page
