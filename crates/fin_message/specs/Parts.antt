-- What the blocks of a message say.
use Rattle.std.specs.Prelude.{ℕ, ◌==◌, Bool, List, Option, Some, None, option_map, option_and_then, position, slice_get}
use Rattle.std.specs.List.{list_any}
use Rattle.std.specs.Str.{bytes_eq}
use Rattle.corr_ids.specs.Address.{bank_of}
use Rattle.corr_ids.specs.Mir.{sender_of}
use Rattle.corr_ids.specs.Uetr.{uetr_of}
use Rattle.corr_ids.specs.declared.address.LtAddress.{LtAddress}
use Rattle.corr_ids.specs.declared.bic.Bic.{Bic}
use Rattle.corr_ids.specs.declared.envelope.Envelope.{Envelope}
use Rattle.corr_ids.specs.declared.uetr.Uetr.{Uetr}
use Rattle.fin_blocks.specs.declared.blocks.App.{App}
use Rattle.fin_blocks.specs.declared.blocks.App.TheVariants.{Received, Sent}
use Rattle.fin_blocks.specs.declared.blocks.Blocks.{Blocks}

-- the type, as 103
abbrev pub type_of : App → ℕ
type_of (Received mt mir) = mt
type_of (Sent mt to) = mt

-- the bank that block 2 names: the sender of a received message, the receiver of a sent one
abbrev pub partner_of : App → Bic
partner_of (Received mt mir) = bank_of (sender_of mir)
partner_of (Sent mt to) = bank_of to

-- some trailer of block 5 has this code
abbrev pub has_trailer : List ℕ → Blocks → Bool
has_trailer code b = list_any (λ c. bytes_eq c code) b.trailers

-- what block 3 holds under a number
abbrev pub subblock_under : ℕ → List (ℕ × List ℕ) → Option (List ℕ)
subblock_under number user =
    option_and_then (λ at. option_map (λ s. s.1) (slice_get user at)) (position (λ s. s.0 == number) user)

-- the UETR, which block 3 holds under 121
abbrev pub uetr_in : Blocks → Option Uetr
uetr_in b = option_and_then uetr_of (subblock_under 121 b.user)

-- who sent it to whom: block 1 names the home bank, block 2 the other one
abbrev pub envelope_with : LtAddress → App → Option Uetr → Envelope
envelope_with own (Received mt mir) uetr = record { mir = Some mir; sender = bank_of (sender_of mir); receiver = bank_of own; uetr = uetr }
envelope_with own (Sent mt to) uetr = record { mir = None; sender = bank_of own; receiver = bank_of to; uetr = uetr }

-- the envelope of a message of these blocks
abbrev pub envelope_of : Blocks → Envelope
envelope_of b = envelope_with b.own b.app (uetr_in b)
