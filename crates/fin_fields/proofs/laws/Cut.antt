-- The fields of a text that is cut without fault may stand in a text.
use Rattle.std.proofs.Common.{◌≡◌, ℕ, List, [], ◌∷◌, option_map, Option, Some, None, refl}
use Rattle.std.specs.List.{All}
use Rattle.corr_text.specs.First.{first_of}
use Rattle.corr_text.specs.Lines.{lines_of}
use Rattle.fin_fields.specs.Faults.{faulty_line, field_fault, outside_x}
use Rattle.fin_fields.specs.Fields.{fields_of}
use Rattle.fin_fields.specs.Writing.{IsField}
use Rattle.fin_fields.specs.declared.fault.FieldFault.{FieldFault}
use Rattle.fin_fields.specs.declared.fault.FieldFault.TheVariants.{P20}
use Rattle.fin_fields.proofs.Fit.{all-fit}

no-fault : (line : Option ℕ) (byte : Option FieldFault) → first_of (option_map (λ l. P20 l) line ∷ byte ∷ []) ≡ None → (line ≡ None) × (byte ≡ None)
no-fault None None e = (refl, refl)
no-fault None (Some fault) e = absurd (cc e)
no-fault (Some line) byte e = absurd (cc e)

-- fields that are cut without fault may be written
pub cut-fit : (text : List ℕ) → field_fault text ≡ None → All IsField (fields_of text)
cut-fit text e =
    let none = no-fault (faulty_line (lines_of text)) (outside_x (fields_of text)) e in
    all-fit (lines_of text) none.0 none.1
