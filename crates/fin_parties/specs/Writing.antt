-- Parties written as fields.
use Rattle.std.specs.Prelude.{ℕ, ◌==◌, List, [], ◌∷◌, Option, Some, None, option_map, if◌then◌else◌}
use Rattle.corr_ids.specs.Bic.{bic_text}
use Rattle.fin_fields.specs.declared.field.Field.{Field}
use Rattle.fin_parties.specs.declared.party.Party.{Party}
use Rattle.fin_parties.specs.declared.party.Party.TheVariants.{A, B, C, D, K, F}

-- the letter of a party's field; that of 59 by name has none
abbrev pub party_letter : ℕ → Party → Option ℕ
party_letter tag (A line bic) = Some 65
party_letter tag (B line place) = Some 66
party_letter tag (C line) = Some 67
party_letter tag (D line lines) = Some 68
party_letter tag (K account lines) = if tag == 59 then None else Some 75
party_letter tag (F line lines) = Some 70

-- lines after an optional one
abbrev pub led_by : Option (List ℕ) → List (List ℕ) → List (List ℕ)
led_by None lines = lines
led_by (Some line) lines = line ∷ lines

-- the lines of a party, a BIC as it is printed
abbrev pub party_lines : Party → List (List ℕ)
party_lines (A line bic) = led_by line (bic_text bic ∷ [])
party_lines (B line place) = led_by line (led_by place [])
party_lines (C line) = line ∷ []
party_lines (D line lines) = led_by line lines
party_lines (K account lines) = led_by (option_map (λ a. 47 ∷ a) account) lines
party_lines (F line lines) = led_by line lines

-- the field of a party
abbrev pub party_field : ℕ → Party → Field
party_field tag p = record { tag = tag; letter = party_letter tag p; lines = party_lines p }
