-- References and value dates that were read.
use Rattle.std.proofs.Common.{◌≡◌, ℕ, ◌&&◌, Bool, true, List, Ok, subst, arith, length, not, leb}
use Rattle.std.specs.List.{list_all}
use Rattle.std.proofs.lemmas.Bool.{leb-true}
use Rattle.std.proofs.lemmas.Bool.Decides.{nat_tests}
use Rattle.corr_text.specs.Sets.{is_in}
use Rattle.corr_text.specs.Slashes.{has_stray_slash}
use Rattle.corr_text.specs.declared.set.Set.TheVariants.{X}
use Rattle.day_model.specs.Shape.{IsReference}
use Rattle.fin_fields.specs.declared.field.Field.{Field}
use Rattle.fin_fields.specs.Patterns.{is_run}
use Rattle.fin_contents.proofs.laws.Steps.{checked, there}
use Rattle.fin_contents.specs.Plain.{one_line, reference_of}
use Rattle.pay_plan.proofs.Parties.{ok-is}

three : (a b c : Bool) → (a && b && c) ≡ true → (a ≡ true) × (b ≡ true) × (c ≡ true)
three a b c e = grind (arith, nat_tests)

pub reference-form : (f : Field) (text : List ℕ) → reference_of f ≡ Ok text → IsReference text
unfolding reference_of
reference-form f text e =
    let line = there (one_line f) _ _ text e in
    let run = checked (is_run (is_in X) 16 line.0) _ _ text line.2 in
    let plain = checked (not (has_stray_slash line.0)) _ _ text run.1 in
    let parts = three (leb 1 (length line.0)) (leb (length line.0) 16) (list_all (is_in X) line.0) run.0 in
    subst IsReference (ok-is line.0 text plain.1) (record { given = leb-true _ _ parts.0; short = leb-true _ _ parts.1; plain = parts.2; slashes = plain.0 })
