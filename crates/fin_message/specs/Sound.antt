-- What every valid message has.
use Rattle.std.specs.Prelude.{◌≡◌, ℕ, ◌≤◌, true, List, [], length, Option, None, Result, Ok, IfSome, IsSome, IsTrue}
use Rattle.corr_text.specs.First.{first_of}
use Rattle.corr_text.specs.declared.fault.Fault.{Fault}
use Rattle.corr_ids.specs.Address.{bank_of}
use Rattle.corr_ids.specs.Bic.{IsBic}
use Rattle.corr_ids.specs.Mir.{IsMir, sender_of}
use Rattle.corr_ids.specs.Uetr.{IsUetr}
use Rattle.corr_ids.specs.declared.bic.Bic.{Bic}
use Rattle.corr_ids.specs.declared.envelope.Envelope.{Envelope}
use Rattle.fin_contents.specs.Money.{IsPayable}
use Rattle.fin_contents.specs.Writing.{IsReadable}
use Rattle.fin_fields.specs.Faults.{field_fault}
use Rattle.fin_fields.specs.Fields.{fields_of}
use Rattle.fin_fields.specs.declared.field.Field.{Field}
use Rattle.mt103.specs.Message.{field_tests as tests_103, mt103_of}
use Rattle.mt103_rules.specs.Rules.{all_rules as rules_103}
use Rattle.mt202cov.specs.Message.{field_tests as tests_202, mt202cov_of}
use Rattle.mt202cov.specs.Rules.{all_rules as rules_202}
use Rattle.mt9_advice.specs.Advice.{c06, mt900_of, mt910_of, tests_900, tests_910}
use Rattle.mt950.specs.Page.{mt950_of, tests_950}
use Rattle.ref_tables.specs.Seen.{Tables, few_decimals, has_head}
use Rattle.fin_message.specs.declared.direction.Direction.{Direction}
use Rattle.fin_message.specs.declared.direction.Direction.TheVariants.{Received, Sent}
use Rattle.fin_message.specs.declared.message.Message.{Message}
use Rattle.fin_message.specs.declared.message.Message.TheVariants.{Cover, Credit, Debit, Page, Transfer}

-- a received message has its reference, a sent one has none yet
abbrev pub IsOfForm : Direction → Envelope → Type 0
IsOfForm Received envelope = IsSome envelope.mir
IsOfForm Sent envelope = envelope.mir ≡ None

-- the same of a message's envelope
abbrev pub Goes : Direction → Message → Type 0
Goes way (Transfer envelope text transfer) = IsOfForm way envelope
Goes way (Cover envelope text cover) = IsOfForm way envelope
Goes way (Debit envelope advice) = IsOfForm way envelope
Goes way (Credit envelope advice) = IsOfForm way envelope
Goes way (Page envelope page) = IsOfForm way envelope

-- an envelope meets its grammar: so do its references, where given, and its banks. The reference of a message names its sender.
pub record IsEnvelope (envelope : Envelope) : Type 0 where
  pub mir : IfSome envelope.mir IsMir
  pub named : IfSome envelope.mir (λ mir. bank_of (sender_of mir) ≡ envelope.sender)
  pub sender : IsBic envelope.sender
  pub receiver : IsBic envelope.receiver
  pub uetr : IfSome envelope.uetr IsUetr

-- the envelope of a message meets its grammar
abbrev pub HasEnvelope : Message → Type 0
HasEnvelope (Transfer envelope text transfer) = IsEnvelope envelope
HasEnvelope (Cover envelope text cover) = IsEnvelope envelope
HasEnvelope (Debit envelope advice) = IsEnvelope envelope
HasEnvelope (Credit envelope advice) = IsEnvelope envelope
HasEnvelope (Page envelope page) = IsEnvelope envelope

-- the other bank: the sender of a received message, the receiver of a sent one
abbrev pub partner_in : Direction → Envelope → Bic
partner_in Received envelope = envelope.sender
partner_in Sent envelope = envelope.receiver

-- the tables hold the head of the bank that a message came from, or goes to
abbrev pub HasPartner : Direction → Tables → Message → Type 0
HasPartner way t (Transfer envelope text transfer) = has_head t (partner_in way envelope).head ≡ true
HasPartner way t (Cover envelope text cover) = has_head t (partner_in way envelope).head ≡ true
HasPartner way t (Debit envelope advice) = has_head t (partner_in way envelope).head ≡ true
HasPartner way t (Credit envelope advice) = has_head t (partner_in way envelope).head ≡ true
HasPartner way t (Page envelope page) = has_head t (partner_in way envelope).head ≡ true

-- the amount of field 32A: above zero and below 10^14 minor units; a page of a statement has no such field
abbrev pub HasAmount : Message → Type 0
HasAmount (Transfer envelope text transfer) = IsPayable transfer.amount
HasAmount (Cover envelope text cover) = IsPayable cover.amount
HasAmount (Debit envelope advice) = IsPayable advice.amount
HasAmount (Credit envelope advice) = IsPayable advice.amount
HasAmount (Page envelope page) = Unit {0}

-- the lines of block 4 of a message that is passed on
abbrev pub lines_in : Message → List ℕ
lines_in (Transfer envelope text transfer) = text
lines_in (Cover envelope text cover) = text
lines_in _ = []

-- lines that are cut into fields without fault, whose fields fail none of these tests (their order, then their contents),
-- and of which a reader gives this
pub record Say {M : Type 0} (checks : Tables → List Field → List (Option Fault)) (reader : Tables → List Field → Result M Fault) (t : Tables) (text : List ℕ) (m : M) : Type 0 where
  pub cut : field_fault text ≡ None
  pub tests : first_of (checks t (fields_of text)) ≡ None
  pub says : reader t (fields_of text) ≡ Ok m

-- the lines of block 4 say what the message has beside its envelope; those of an advice and of a page are not kept
abbrev pub IsSaid : Tables → Message → Type 0
IsSaid t (Transfer envelope text transfer) = Say tests_103 mt103_of t text transfer
IsSaid t (Cover envelope text cover) = Say tests_202 mt202cov_of t text cover
IsSaid t (Debit envelope advice) = (text : List ℕ) × Say tests_900 mt900_of t text advice
IsSaid t (Credit envelope advice) = (text : List ℕ) × Say tests_910 mt910_of t text advice
IsSaid t (Page envelope page) = (text : List ℕ) × Say tests_950 mt950_of t text page

-- it breaks no rule of its type; those of a transfer are between its sender and its receiver, and those of a page are part of its reading
abbrev pub KeepsRules : Tables → Message → Type 0
KeepsRules t (Transfer envelope text transfer) = first_of (rules_103 envelope.sender envelope.receiver t transfer) ≡ None
KeepsRules t (Cover envelope text cover) = first_of (rules_202 cover) ≡ None
KeepsRules t (Debit envelope advice) = Unit {0}
KeepsRules t (Credit envelope advice) = c06 advice ≡ None
KeepsRules t (Page envelope page) = Unit {0}

-- what it says can be written again
abbrev pub CanBeWritten : Message → Type 0
CanBeWritten (Transfer envelope text transfer) = IsReadable mt103_of transfer
CanBeWritten (Cover envelope text cover) = IsReadable mt202cov_of cover
CanBeWritten (Debit envelope advice) = IsReadable mt900_of advice
CanBeWritten (Credit envelope advice) = IsReadable mt910_of advice
CanBeWritten (Page envelope page) = IsReadable mt950_of page

-- the lines that a message keeps say what it has beside its envelope
abbrev pub TextSays : Tables → Message → Type 0
TextSays t (Transfer envelope text transfer) = mt103_of t (fields_of text) ≡ Ok transfer
TextSays t (Cover envelope text cover) = mt202cov_of t (fields_of text) ≡ Ok cover
TextSays t _ = Unit {0}

-- a valid message that goes this way under these tables, with lines of at most so many bytes
pub record IsValid (way : Direction) (t : Tables) (most : ℕ) (message : Message) : Type 0 where
  pub goes : Goes way message
  pub envelope : HasEnvelope message
  pub partner : HasPartner way t message
  pub said : IsSaid t message
  pub read : TextSays t message
  pub rules : KeepsRules t message
  pub amount : HasAmount message
  pub written : IsTrue (few_decimals t.ccys) → CanBeWritten message
  pub short : length (lines_in message) ≤ most
