-- What the page says of each message: its verdict, its route and the entry under its reference; of a payment that isn't entered, that alone.
use Rattle.std.specs.Prelude.{ℕ, List, map, Some, None, Result, Ok, Err}
use Rattle.corr_ids.specs.declared.envelope.Envelope.{Envelope}
use Rattle.day_model.specs.Chart.{Chart}
use Rattle.day_model.specs.declared.entry.Entry.{Entry}
use Rattle.desk_page.specs.Row.{party_text, standing_by}
use Rattle.desk_page.specs.declared.row.Payment.{Payment}
use Rattle.desk_page.specs.declared.row.Row.{Row}
use Rattle.desk_page.specs.declared.row.Row.TheVariants as row
use Rattle.desk_page.specs.declared.row.Standing.{Standing}
use Rattle.fin_message.specs.declared.message.Message.{Message}
use Rattle.fin_message.specs.declared.message.Message.TheVariants as message
use Rattle.fin_message.specs.Verdict.{Refused as Refusal, verdict_of}
use Rattle.mt103.specs.declared.message.Mt103.{Mt103}
use Rattle.mt202cov.specs.declared.message.Mt202Cov.{Mt202Cov}
use Rattle.pay_plan.specs.Plan.{mir_of_envelope}
use Rattle.corr_top.specs.declared.directory.Directory.{Directory}
use Rattle.corr_top.specs.Message.{message_reply, pay_in}

-- what a transfer says
abbrev pub transfer_shown : Envelope → Mt103 → Payment
transfer_shown envelope m = record {
  mir = mir_of_envelope envelope;
  sender = envelope.sender;
  reference = m.reference;
  uetr = envelope.uetr;
  value = m.value;
  amount = m.amount;
  payee = party_text m.payee;
}

-- what a cover says: it is for the bank of 58a
abbrev pub cover_shown : Envelope → Mt202Cov → Payment
cover_shown envelope m = record {
  mir = mir_of_envelope envelope;
  sender = envelope.sender;
  reference = m.reference;
  uetr = envelope.uetr;
  value = m.value;
  amount = m.amount;
  payee = party_text m.a58;
}

-- where the payment of a valid message stands after these entries, by its plan and the entry under its reference
abbrev pub standing_in : Directory → Chart → List Entry → Message → Standing
standing_in directory chart entries valid = standing_by entries (message_reply entries (pay_in directory chart valid))

-- what is said of a valid message
abbrev pub valid_row : Directory → Chart → List Entry → Message → Row
valid_row directory chart entries (message.Transfer envelope text m) = row.Asks (transfer_shown envelope m) (standing_in directory chart entries (message.Transfer envelope text m))
valid_row directory chart entries (message.Cover envelope text m) = row.Asks (cover_shown envelope m) (standing_in directory chart entries (message.Cover envelope text m))
valid_row directory chart entries (message.Debit envelope advice) = row.Told (mir_of_envelope envelope) None
valid_row directory chart entries (message.Credit envelope advice) = row.Told (mir_of_envelope envelope) None
valid_row directory chart entries (message.Page envelope page) = row.Told (mir_of_envelope envelope) (Some page.account)

-- what is said of a message by its verdict
abbrev pub judged_row : Directory → Chart → List Entry → Result Message Refusal → Row
judged_row directory chart entries (Ok valid) = valid_row directory chart entries valid
judged_row directory chart entries (Err refusal) = row.Refused refusal.0 refusal.1

-- what is said of a message
unfoldable pub row_of : Directory → Chart → List Entry → List ℕ → Row
row_of directory chart entries bs = judged_row directory chart entries (verdict_of chart.home directory.tables bs)

-- what is said of each message of a file, in their order
abbrev pub rows_of : Directory → Chart → List Entry → List (List ℕ) → List Row
rows_of directory chart entries messages = map (row_of directory chart entries) messages
