-- The verdict on a message: the first test that fails, in the order of the table below, or what the message says.
--   P01 to P06   its blocks
--   P07 to P13   what the blocks say, against the home bank and the table of banks
--   P20, P21     the lines of block 4, then their characters
--   then, by its type: the order of the fields, their contents, the rules
use Rattle.std.specs.Prelude.{ℕ, ◌==◌, ◌||◌, List, [], ◌∷◌, codes, Option, Some, None, option_and_then, Result, Ok, Err, if◌then◌else◌}
use Rattle.std.specs.Str.{bytes_eq}
use Rattle.corr_text.specs.Codes.{code}
use Rattle.corr_text.specs.First.{◌>>=◌}
use Rattle.corr_text.specs.declared.fault.Code.{Code}
use Rattle.corr_text.specs.declared.fault.Fault.{Fault}
use Rattle.corr_ids.specs.declared.bic.Bic.{Bic}
use Rattle.corr_ids.specs.declared.mir.Mir.{Mir}
use Rattle.fin_blocks.specs.Blocks.{blocks_of}
use Rattle.fin_blocks.specs.Forms.{mir_in}
use Rattle.fin_blocks.specs.declared.blocks.Blocks.{Blocks}
use Rattle.fin_blocks.specs.declared.fault.BlockFault.{BlockFault}
use Rattle.fin_blocks.specs.declared.fault.BlockFault.TheVariants as block
use Rattle.fin_fields.specs.Fields.{fields_of}
use Rattle.fin_fields.specs.Faults.{field_fault}
use Rattle.fin_fields.specs.declared.fault.FieldFault.{FieldFault}
use Rattle.fin_fields.specs.declared.fault.FieldFault.TheVariants as field
use Rattle.fin_layout.specs.Tests.{passed}
use Rattle.mt103.specs.Message.{mt103_of}
use Rattle.mt103_rules.specs.Rules.{all_rules}
use Rattle.mt202cov.specs.Message.{mt202cov_of}
use Rattle.mt9_advice.specs.Advice.{mt900_of, mt910_of}
use Rattle.mt950.specs.Page.{mt950_of}
use Rattle.ref_tables.specs.Seen.{Tables}
use Rattle.fin_message.specs.Heading.{at_block, heading_tests}
use Rattle.fin_message.specs.Parts.{envelope_of, type_of}
use Rattle.fin_message.specs.declared.direction.Direction.{Direction}
use Rattle.fin_message.specs.declared.direction.Direction.TheVariants.{Received, Sent}
use Rattle.fin_message.specs.declared.message.Message.{Message}
use Rattle.fin_message.specs.declared.message.Message.TheVariants.{Cover, Credit, Debit, Page, Transfer}

-- the most bytes of a message that is judged
abbrev pub most_bytes_judged : ℕ
most_bytes_judged = 65535

-- why a message is refused: its reference where that is told, and the fault
abbrev pub Refused : Type 0
Refused = Option Mir × Fault

-- the block that P01 to P06 are told of
abbrev pub block_tag : Code → List ℕ
block_tag refusal =
    if bytes_eq refusal.0 (codes "P01") || bytes_eq refusal.0 (codes "P02") then codes "B1 "
    else if bytes_eq refusal.0 (codes "P03") then codes "B2 "
    else if bytes_eq refusal.0 (codes "P04") then codes "B3 "
    else if bytes_eq refusal.0 (codes "P05") then codes "B4 "
    else codes "B5 "

-- P01 to P06, and never out of memory; the reference is told from P04 on
abbrev pub refused_block : BlockFault → Refused
refused_block (block.Bad refusal mir) = (mir, at_block refusal (block_tag refusal))
refused_block block.Memory = (None, at_block (code "P01") (codes "B1 "))

-- the blocks, or the refusal of the first that is not of its form
abbrev pub blocks_in : Result Blocks BlockFault → Result Blocks Refused
blocks_in (Ok blocks) = Ok blocks
blocks_in (Err fault) = Err (refused_block fault)

-- a fault of a message whose blocks were read has its reference, if block 2 has one
abbrev pub told_of : {A : Type 0} → Blocks → Result A Fault → Result A Refused
told_of b (Ok x) = Ok x
told_of b (Err fault) = Err (mir_in b.app, fault)

-- P20 with its line, P21 with its field
abbrev pub told_of_fields : FieldFault → Option Fault
told_of_fields (field.P20 line) = Some (record { code = code "P20"; tag = codes "B4 "; nth = line })
told_of_fields (field.P21 tag nth) = Some (record { code = code "P21"; tag = tag; nth = nth })
told_of_fields field.Memory = None

-- the test of block 4's lines, then of their characters
abbrev pub line_test : List ℕ → Option Fault
line_test text = option_and_then told_of_fields (field_fault text)

-- an MT103: its fields, then its rules
unfoldable pub transfer_in : Tables → Blocks → Result Message Fault
transfer_in t b = do
  transfer ← mt103_of t (fields_of b.text)
  let envelope = envelope_of b
  _ ← passed (all_rules envelope.sender envelope.receiver t transfer)
  Ok (Transfer envelope b.text transfer)

-- an MT202 COV: its fields and its rules
unfoldable pub cover_in : Tables → Blocks → Result Message Fault
cover_in t b = do
  cover ← mt202cov_of t (fields_of b.text)
  Ok (Cover (envelope_of b) b.text cover)

-- an MT900: its fields
unfoldable pub debit_in : Tables → Blocks → Result Message Fault
debit_in t b = do
  advice ← mt900_of t (fields_of b.text)
  Ok (Debit (envelope_of b) advice)

-- an MT910: its fields and its rule
unfoldable pub credit_in : Tables → Blocks → Result Message Fault
credit_in t b = do
  advice ← mt910_of t (fields_of b.text)
  Ok (Credit (envelope_of b) advice)

-- an MT950: its fields and its currencies
unfoldable pub page_in : Tables → Blocks → Result Message Fault
page_in t b = do
  page ← mt950_of t (fields_of b.text)
  Ok (Page (envelope_of b) page)

-- the message by its type; after P11 the last type is 950
abbrev pub message_in : Tables → Blocks → Result Message Fault
message_in t b =
    if type_of b.app == 103 then transfer_in t b
    else if type_of b.app == 202 then cover_in t b
    else if type_of b.app == 900 then debit_in t b
    else if type_of b.app == 910 then credit_in t b
    else page_in t b

-- the tests after those of the blocks, in their order
unfoldable pub message_of : Direction → Bic → Tables → Blocks → Result Message Fault
message_of way home t b = do
  _ ← passed (heading_tests way home t b)
  _ ← passed (line_test b.text ∷ [])
  message_in t b

-- what a message says that goes this way from or to the home bank, or the first test that it fails
unfoldable pub judged : Direction → Bic → Tables → List ℕ → Result Message Refused
judged way home t m = do
  b ← blocks_in (blocks_of m)
  told_of b (message_of way home t b)

-- a message that the home bank received
abbrev pub verdict_of : Bic → Tables → List ℕ → Result Message Refused
verdict_of home t m = judged Received home t m

-- a message that the home bank sends: the same table. P07 asks for the other form, and with it block 2 names the
-- receiver in place of the sender (P12, and the banks of the rules); P08 asks the same of block 1
abbrev pub sent_verdict_of : Bic → Tables → List ℕ → Result Message Refused
sent_verdict_of home t m = judged Sent home t m
