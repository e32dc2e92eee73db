-- What a message asks for: a pay between two accounts, less a charge if it has one, or why it gives none.
use Rattle.std.specs.Prelude.{ℕ, List, map, Option, Some, Result, Ok, Err}
use Rattle.std.specs.List.{filter_map}
use Rattle.std.specs.Result.{result_ok}
use Rattle.corr_text.specs.Codes.{code}
use Rattle.corr_text.specs.First.{◌>>=◌}
use Rattle.corr_text.specs.declared.fault.Code.{Code}
use Rattle.corr_ids.specs.declared.envelope.Envelope.{Envelope}
use Rattle.day_model.specs.declared.entry.Entry.{Entry}
use Rattle.day_model.specs.declared.pay.Pay.{Pay}
use Rattle.day_model.specs.declared.reply.Reply.{Reply}
use Rattle.day_model.specs.declared.reply.Reply.TheVariants as reply
use Rattle.day_model.specs.Chart.{Chart}
use Rattle.day_model.specs.Same.{reply_to}
use Rattle.fin_message.specs.declared.message.Message.{Message}
use Rattle.fin_message.specs.declared.message.Message.TheVariants as message
use Rattle.fin_message.specs.Verdict.{Refused as Refusal, verdict_of}
use Rattle.pay_plan.specs.Plan.{mir_of_envelope, plan_of}
use Rattle.corr_top.specs.declared.directory.Directory.{Directory}
use Rattle.corr_top.specs.declared.message.NoPay.{NoPay}
use Rattle.corr_top.specs.declared.message.NoPay.TheVariants.{Refused, Unrouted}
use Rattle.corr_top.specs.Asks.{asks_cover, asks_transfer}

-- a message that is not valid
abbrev pub refused : {A : Type 0} → Result A Refusal → Result A NoPay
refused (Ok x) = Ok x
refused (Err refusal) = Err (Refused refusal.0 refusal.1)

-- a valid message without a route
abbrev pub unrouted : {A : Type 0} → Envelope → Result A Code → Result A NoPay
unrouted envelope (Ok x) = Ok x
unrouted envelope (Err code) = Err (Unrouted (mir_of_envelope envelope) code)

-- the pay of a valid message: a transfer and a cover have a plan, an advice and a page of a statement ask for nothing, which is P37
abbrev pub pay_in : Directory → Chart → Message → Result Pay NoPay
pay_in directory chart (message.Transfer envelope text transfer) = unrouted envelope (plan_of envelope text (asks_transfer transfer) directory.ssi directory.charges chart)
pay_in directory chart (message.Cover envelope text cover) = unrouted envelope (plan_of envelope text (asks_cover cover) directory.ssi directory.charges chart)
pay_in directory chart (message.Debit envelope advice) = unrouted envelope (Err (code "P37"))
pay_in directory chart (message.Credit envelope advice) = unrouted envelope (Err (code "P37"))
pay_in directory chart (message.Page envelope page) = unrouted envelope (Err (code "P37"))

-- the pay that a message asks for, or why it gives none
unfoldable pub pay_asked_of : Directory → Chart → List ℕ → Result Pay NoPay
pay_asked_of directory chart bs = do
  valid ← refused (verdict_of chart.home directory.tables bs)
  pay_in directory chart valid

-- each message of a list of them
abbrev pub readings_of : Directory → Chart → List (List ℕ) → List (Result Pay NoPay)
readings_of directory chart messages = map (pay_asked_of directory chart) messages

-- the pays among them, in their order
abbrev pub pays_in : List (Result Pay NoPay) → List Pay
pays_in readings = filter_map result_ok readings

-- the reply to a message that gives no pay
abbrev pub reply_for : NoPay → Reply
reply_for (Refused mir fault) = reply.Refused mir fault
reply_for (Unrouted mir code) = reply.Unrouted mir code

-- the reply to a message after a history; a pay that is not entered has none
abbrev pub message_reply : List Entry → Result Pay NoPay → Option Reply
message_reply entries (Ok pay) = reply_to pay entries
message_reply entries (Err why) = Some (reply_for why)

-- the replies, in the order of the messages
abbrev pub replies_in : List Entry → List (Result Pay NoPay) → List Reply
replies_in entries readings = filter_map (message_reply entries) readings
