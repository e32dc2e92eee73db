-- The tests of a message's blocks against the home bank and the tables, in their order: P07 to P13.
use Rattle.std.specs.Prelude.{ℕ, ◌==◌, ◌||◌, not, Bool, true, false, List, [], ◌∷◌, codes, Option, is_none, if◌then◌else◌}
use Rattle.std.specs.Option.{option_map_or}
use Rattle.std.specs.Str.{bytes_eq}
use Rattle.corr_text.specs.Codes.{code}
use Rattle.corr_text.specs.First.{unless}
use Rattle.corr_text.specs.declared.fault.Code.{Code}
use Rattle.corr_text.specs.declared.fault.Fault.{Fault}
use Rattle.corr_ids.specs.declared.bic.Bic.{Bic}
use Rattle.fin_blocks.specs.declared.blocks.App.{App}
use Rattle.fin_blocks.specs.declared.blocks.App.TheVariants as form
use Rattle.fin_blocks.specs.declared.blocks.Blocks.{Blocks}
use Rattle.ref_tables.specs.Seen.{Tables, has_head}
use Rattle.fin_message.specs.Parts.{has_trailer, partner_of, type_of, subblock_under}
use Rattle.fin_message.specs.declared.direction.Direction.{Direction}
use Rattle.fin_message.specs.declared.direction.Direction.TheVariants.{Received, Sent}

-- a fault that is told of a block, `B1` to `B5`
abbrev pub at_block : Code → List ℕ → Fault
at_block refusal tag = record { code = refusal; tag = tag; nth = 0 }

-- block 2 is of the form of messages that go this way: output form of received ones, input form of sent ones
abbrev pub has_form : Direction → App → Bool
has_form Received (form.Received mt mir) = true
has_form Received (form.Sent mt to) = false
has_form Sent (form.Received mt mir) = false
has_form Sent (form.Sent mt to) = true

-- a type that is known
abbrev pub is_type : ℕ → Bool
is_type mt = (mt == 103) || (mt == 202) || (mt == 900) || (mt == 910) || (mt == 950)

-- field 119 of block 3 is as the type wants it: none in 103, `COV` in 202, any or none in another
abbrev pub fits_validation : ℕ → Option (List ℕ) → Bool
fits_validation mt flag =
    if mt == 103 then is_none flag
    else if mt == 202 then option_map_or (λ text. bytes_eq text (codes "COV")) flag false
    else true

-- the form of its direction; block 1 of the home bank; no test message; no possible duplicate; a type that is known; a
-- bank of the table in block 2; the validation flag of the type
abbrev pub heading_tests : Direction → Bic → Tables → Blocks → List (Option Fault)
heading_tests way home t b =
    unless (has_form way b.app) (at_block (code "P07") (codes "B2 "))
    ∷ unless (bytes_eq b.own.head home.head) (at_block (code "P08") (codes "B1 "))
    ∷ unless (not (has_trailer (codes "TNG") b)) (at_block (code "P09") (codes "B5 "))
    ∷ unless (not (has_trailer (codes "PDE") b)) (at_block (code "P10") (codes "B5 "))
    ∷ unless (is_type (type_of b.app)) (at_block (code "P11") (codes "B2 "))
    ∷ unless (has_head t (partner_of b.app).head) (at_block (code "P12") (codes "B2 "))
    ∷ unless (fits_validation (type_of b.app) (subblock_under 119 b.user)) (at_block (code "P13") (codes "B3 "))
    ∷ []
