-- The verdict on a message: the first test that fails, in the order of the table below, or what the message says.
use Rattle.std.specs.Prelude.{List, Result, Ok}
use Rattle.corr_text.specs.First.{◌>>=◌}
use Rattle.corr_text.specs.declared.fault.Fault.{Fault}
use Rattle.corr_ids.specs.declared.envelope.Envelope.{Envelope}
use Rattle.fin_fields.specs.declared.field.Field.{Field}
use Rattle.fin_layout.specs.Tests.{passed}
use Rattle.mt103.specs.Message.{mt103_of}
use Rattle.mt103.specs.declared.message.Mt103.{Mt103}
use Rattle.mt103_rules.specs.Rules.{all_rules}
use Rattle.ref_tables.specs.Seen.{Tables}

-- what the fields of an MT103 say between these banks: the fields, then the rules
unfoldable pub ruled_of : Tables → Envelope → List Field → Result Mt103 Fault
ruled_of t envelope fields = do
  transfer ← mt103_of t fields
  _ ← passed (all_rules envelope.sender envelope.receiver t transfer)
  Ok transfer
