-- Parties whose banks are known.
use Rattle.std.specs.Prelude.{Bool, true, Result, Ok}
use Rattle.corr_text.specs.Codes.{code}
use Rattle.corr_text.specs.First.{check, or_fault, ◌>>=◌}
use Rattle.corr_text.specs.declared.fault.Code.{Code}
use Rattle.ref_tables.specs.Seen.{Tables, has_head}
use Rattle.fin_fields.specs.declared.field.Field.{Field}
use Rattle.fin_parties.specs.Party.{party_of}
use Rattle.fin_parties.specs.declared.party.Party.{Party}
use Rattle.fin_parties.specs.declared.party.Party.TheVariants as party

-- a BIC's head is in the table of banks
abbrev pub is_known : Tables → Party → Bool
is_known t (party.A line bic) = has_head t bic.head
is_known t _ = true

-- 50a to 59a
unfoldable pub known_party_of : Tables → Field → Result Party Code
known_party_of t f = do
  p ← or_fault (party_of f) (code "P24")
  _ ← check (is_known t p) (code "P25")
  Ok p
