-- The command `reconcile`: statements that were received, against the books.
use Rattle.std.specs.Prelude.{ℕ, List, [], ◌∷◌, ◌++◌, map, Option, Some, None, Result, Ok, Err}
use Rattle.std.specs.List.{filter_map}
use Rattle.corr_text.specs.Codes.{code}
use Rattle.corr_ids.specs.declared.bic.Bic.{Bic}
use Rattle.corr_ids.specs.declared.envelope.Envelope.{Envelope}
use Rattle.corr_report.specs.Lines.{numbered}
use Rattle.corr_report.specs.Report.{reply_line}
use Rattle.day_model.specs.declared.entry.Entry.{Entry}
use Rattle.day_model.specs.Chart.{Chart}
use Rattle.fin_message.specs.declared.message.Message.{Message}
use Rattle.fin_message.specs.declared.message.Message.TheVariants as message
use Rattle.fin_message.specs.Verdict.{Refused as Refusal, verdict_of}
use Rattle.mt950.specs.declared.page.Page950.{Page950}
use Rattle.pay_plan.specs.Plan.{mir_of_envelope}
use Rattle.reconcile.specs.Breaks.{breaks_of}
use Rattle.ref_tables.specs.Seen.{Tables}
use Rattle.ref_tables.specs.declared.fault.TableName.TheVariants as names
use Rattle.corr_top.specs.declared.message.NoPay.TheVariants as no_pay
use Rattle.corr_top.specs.declared.received.Read.{Read}
use Rattle.corr_top.specs.declared.received.Read.TheVariants as read
use Rattle.corr_top.specs.Inputs.{Inputs, tables_in}
use Rattle.corr_top.specs.Meaning.{Meaning}
use Rattle.corr_top.specs.Message.{reply_for}
use Rattle.corr_top.specs.Query.{QueryLeaves}
use Rattle.corr_top.specs.Steps.{Step}

-- the tables of banks, currencies and countries, the journal, and the received messages
abbrev pub reconcile_steps : List Step
reconcile_steps = Step.table names.Bics ∷ Step.table names.Ccys ∷ Step.table names.Countries ∷ Step.open_journal ∷ Step.received ∷ []

-- ---- a received message

-- the envelope of a message
abbrev pub envelope_in : Message → Envelope
envelope_in (message.Transfer envelope text transfer) = envelope
envelope_in (message.Cover envelope text cover) = envelope
envelope_in (message.Debit envelope advice) = envelope
envelope_in (message.Credit envelope advice) = envelope
envelope_in (message.Page envelope page) = envelope

-- what a valid message is: a page, or one that asks for nothing here, which is P37
abbrev pub read_as : Message → Read
read_as (message.Page envelope page) = read.Page page
read_as other = read.Other (no_pay.Unrouted (mir_of_envelope (envelope_in other)) (code "P37"))

-- what a message is by its verdict
abbrev pub judged_as : Result Message Refusal → Read
judged_as (Ok valid) = read_as valid
judged_as (Err refusal) = read.Other (no_pay.Refused refusal.0 refusal.1)

-- what a received message is
abbrev pub read_from : Bic → Tables → List ℕ → Read
read_from home t bs = judged_as (verdict_of home t bs)

-- ---- all of them

-- a page among what was received
abbrev pub page_read : Read → Option Page950
page_read (read.Page page) = Some page
page_read (read.Other why) = None

-- the line of the n-th message, of a page none
abbrev pub other_line : Chart → List Entry → ℕ → Read → List ℕ
other_line chart entries n (read.Page page) = []
other_line chart entries n (read.Other why) = reply_line chart entries n (reply_for why)

-- what the messages are
abbrev pub all_received : Bic → Tables → List (List ℕ) → List Read
all_received home t messages = map (read_from home t) messages

-- a line for each message that is no page, with its number
abbrev pub other_lines : Chart → List Entry → List Read → List ℕ
other_lines chart entries reads = numbered (other_line chart entries) 1 reads

-- the pages, in the order of the messages
abbrev pub pages_in : List Read → List Page950
pages_in reads = filter_map page_read reads

-- the report: a line for each message that is no page, and what is told of the statements
abbrev pub break_report : Chart → List Entry → Tables → List (List ℕ) → List ℕ
break_report chart entries t messages =
    other_lines chart entries (all_received chart.home t messages) ++ breaks_of chart entries (pages_in (all_received chart.home t messages))

-- the report of what was read
unfoldable pub reconcile_report : Inputs → List ℕ
reconcile_report i = break_report i.chart i.history (tables_in i) i.cut

-- it sends nothing, and writes nothing to the disk
abbrev pub reconcile_meaning : Meaning
reconcile_meaning = record {
  is_for = λ i. Unit {0};
  steps = reconcile_steps;
  report = reconcile_report;
  out = λ i. [];
  valid = λ i. Unit {0};
  leaves = λ D disk old new i. QueryLeaves disk old new;
}
