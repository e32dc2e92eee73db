-- References: of entries, of what a line quotes, and the first one of a text.
use Rattle.std.specs.Prelude.{ℕ, ◌≤◌, ◌&&◌, Bool, not, List, ◌∷◌, Option, Some, None, codes, find, option_and_then, unwrap_or, if◌then◌else◌}
use Rattle.corr_text.specs.Digits.{padded}
use Rattle.corr_text.specs.Sets.{is_in}
use Rattle.corr_text.specs.Slashes.{has_stray_slash}
use Rattle.corr_text.specs.declared.set.Set.TheVariants.{X}
use Rattle.fin_contents.specs.Plain.{one_line}
use Rattle.fin_fields.specs.Patterns.{is_run}
use Rattle.fin_fields.specs.declared.field.Field.{Field}
use Rattle.day_model.specs.declared.pay.Quote.{Quote}
use Rattle.day_model.specs.declared.pay.Quote.TheVariants.{Ours, Theirs}
use Rattle.advices.specs.Fields.{is_named, ours}
use Rattle.advices.specs.Received.{fields_in}

-- the reference of the entry at a place, as `P00000001`
abbrev pub own_reference : ℕ → List ℕ
own_reference place = 80 ∷ padded 8 place

-- what a line quotes for a leg of the entry at a place
abbrev pub quote_text : ℕ → Quote → List ℕ
quote_text place (Theirs text) = text
quote_text place (Ours k) = ours place k

-- an order's number is a byte
abbrev pub IsByteQuote : Quote → Type 0
IsByteQuote (Theirs text) = Unit {0}
IsByteQuote (Ours k) = k ≤ 255

-- 1 to 16 characters of X, without a stray slash
abbrev pub is_reference : List ℕ → Bool
is_reference line = is_run (is_in X) 16 line && not (has_stray_slash line)

-- a line, if it is a reference
abbrev pub reference_if : List ℕ → Option (List ℕ)
reference_if line = if is_reference line then Some line else None

-- the reference that a field says, if its only line is one
abbrev pub reference_in : Field → Option (List ℕ)
reference_in f = option_and_then reference_if (one_line f)

-- field 20, without a letter
abbrev pub is_20 : Field → Bool
is_20 f = is_named 20 (codes " ") f

-- the reference that the first field 20 of a text says
abbrev pub first_reference : List ℕ → Option (List ℕ)
first_reference text = option_and_then reference_in (find is_20 (fields_in text))

-- what a return names as the reference of the payment of this text
abbrev pub related_of : List ℕ → List ℕ
related_of text = unwrap_or (first_reference text) (codes "NONREF")
