-- The command `check`: the verdict on each message, without a journal.
use Rattle.std.specs.Prelude.{◌≡◌, ℕ, List, [], ◌∷◌, codes, Result, Ok, Err}
use Rattle.std.specs.Fmt.{decimal}
use Rattle.corr_text.specs.Digits.{padded}
use Rattle.corr_ids.specs.declared.bic.Bic.{Bic}
use Rattle.corr_report.specs.Lines.{line, numbered}
use Rattle.corr_report.specs.Report.{or_dashes, tag_text}
use Rattle.fin_message.specs.declared.message.Message.{Message}
use Rattle.fin_message.specs.declared.message.Message.TheVariants as message
use Rattle.fin_message.specs.Verdict.{Refused as Refusal, verdict_of}
use Rattle.pay_plan.specs.Plan.{mir_of_envelope}
use Rattle.ref_tables.specs.Seen.{Tables}
use Rattle.ref_tables.specs.declared.fault.TableName.TheVariants as names
use Rattle.corr_top.specs.Inputs.{Inputs, tables_in}
use Rattle.corr_top.specs.Meaning.{Meaning}
use Rattle.corr_top.specs.Reconcile.{envelope_in}
use Rattle.corr_top.specs.Steps.{Step}

-- the tables of banks, currencies and countries, and the messages; the disk is left aside
abbrev pub check_steps : List Step
check_steps = Step.table names.Bics ∷ Step.table names.Ccys ∷ Step.table names.Countries ∷ Step.messages ∷ Step.aside ∷ []

-- the type of a valid message
abbrev pub type_of : Message → List ℕ
type_of (message.Transfer envelope text transfer) = codes "103"
type_of (message.Cover envelope text cover) = codes "202COV"
type_of (message.Debit envelope advice) = codes "900"
type_of (message.Credit envelope advice) = codes "910"
type_of (message.Page envelope page) = codes "950"

-- the reference of a message and its type, or its fault: `VALID 103`, or `REFUSED C81 56A 1`
abbrev pub verdict_words : Result Message Refusal → List (List ℕ)
verdict_words (Ok valid) = (mir_of_envelope (envelope_in valid)).0 ∷ codes "VALID" ∷ type_of valid ∷ []
verdict_words (Err refusal) = or_dashes refusal.0 ∷ codes "REFUSED" ∷ refusal.1.code.0 ∷ tag_text refusal.1.tag ∷ decimal refusal.1.nth ∷ []

-- the line of the n-th message, by the verdict on it
abbrev pub check_line : Bic → Tables → ℕ → List ℕ → List ℕ
check_line home t n bs = line (padded 6 n) (verdict_words (verdict_of home t bs))

-- a line for each message
abbrev pub check_lines : Bic → Tables → List (List ℕ) → List ℕ
check_lines home t messages = numbered (check_line home t) 1 messages

-- the report of what was read
unfoldable pub check_report : Inputs → List ℕ
check_report i = check_lines i.home (tables_in i) i.cut

-- it is for the home bank that the words name, sends nothing, and leaves the disk
abbrev pub check_meaning : Bic → Meaning
check_meaning home = record {
  is_for = λ i. i.home ≡ home;
  steps = check_steps;
  report = check_report;
  out = λ i. [];
  valid = λ i. Unit {0};
  leaves = λ D disk old new i. new ≡ old;
}
