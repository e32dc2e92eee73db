-- References that returns quote and name.
use Rattle.std.proofs.Common.{◌≡◌, ℕ, ◌≤◌, ◌&&◌, Bool, true, false, cond, not, IfSome, List, length, Option, Some, None, Ok, refl, leb}
use Rattle.std.specs.Prelude.{codes, find, option_and_then, unwrap_or}
use Rattle.std.specs.List.{list_all}
use Rattle.std.proofs.lemmas.Bool.{and_from, and_parts, leb-true}
use Rattle.corr_text.specs.Sets.{is_in}
use Rattle.corr_text.specs.Slashes.{has_stray_slash}
use Rattle.corr_text.specs.declared.set.Set.TheVariants.{X}
use Rattle.fin_fields.specs.Patterns.{is_run}
use Rattle.fin_fields.specs.declared.field.Field.{Field}
use Rattle.fin_contents.specs.Plain.{one_line, reference_of}
use Rattle.fin_contents.specs.Writing.{line_field}
use Rattle.fin_contents.proofs.laws.Steps.{checked}
use Rattle.day_model.specs.Shape.{IsQuote, IsReference}
use Rattle.day_model.specs.declared.pay.Quote.{Quote}
use Rattle.day_model.specs.declared.pay.Quote.TheVariants.{Ours, Theirs}
use Rattle.advices.specs.Fields.{ours}
use Rattle.advices.specs.Received.{fields_in}
use Rattle.advices.proofs.laws.Made.{ours-read}
use Rattle.pay_returns.specs.References.{IsByteQuote, first_reference, is_20, is_reference, quote_text, reference_if, reference_in, related_of}

-- what passes the test is a reference
pub tested-reference : (text : List ℕ) → is_reference text ≡ true → IsReference text
tested-reference text e =
    let both = and_parts (is_run (is_in X) 16 text) (not (has_stray_slash text)) e in
    let run = and_parts (leb 1 (length text) && leb (length text) 16) (list_all (is_in X) text) both.0 in
    let sizes = and_parts (leb 1 (length text)) (leb (length text) 16) run.0 in
    record { given = leb-true _ _ sizes.0; short = leb-true _ _ sizes.1; plain = run.1; slashes = both.1 }

-- ---- the reference that a payment says

kept-reference : (line : List ℕ) (b : Bool) → is_reference line ≡ b → IfSome (cond b (Some line) None) IsReference
kept-reference line true e = tested-reference line e
kept-reference line false e = tt

line-reference : (o : Option (List ℕ)) → IfSome (option_and_then reference_if o) IsReference
line-reference None = tt
line-reference (Some line) = kept-reference line (is_reference line) refl

field-reference : (o : Option Field) → IfSome (option_and_then reference_in o) IsReference
field-reference None = tt
field-reference (Some f) = line-reference (one_line f)

or-none : (o : Option (List ℕ)) → IfSome o IsReference → IsReference (unwrap_or o (codes "NONREF"))
or-none None e = tested-reference (codes "NONREF") refl
or-none (Some text) e = e

pub related-reference : (text : List ℕ) → IsReference (related_of text)
related-reference text = or-none (first_reference text) (field-reference (find is_20 (fields_in text)))

-- ---- what its legs quote

read-reference : (text : List ℕ) → reference_of (line_field 20 None text) ≡ Ok text → is_reference text ≡ true
unfolding reference_of
read-reference text e =
    let run = checked (is_run (is_in X) 16 text) _ _ text e in
    let plain = checked (not (has_stray_slash text)) _ _ text run.1 in
    and_from (is_run (is_in X) 16 text) (not (has_stray_slash text)) run.0 plain.0

pub quote-reference : (place : ℕ) (quote : Quote) → place ≤ 100000 → IsQuote quote → IsByteQuote quote → IsReference (quote_text place quote)
quote-reference place (Theirs text) small is byte = is
quote-reference place (Ours k) small is byte = tested-reference (ours place k) (read-reference (ours place k) (ours-read place k small byte 20))
