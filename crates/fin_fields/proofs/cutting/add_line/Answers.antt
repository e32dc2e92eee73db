use Rattle.std.proofs.Common.{◌++◌, ◌∷◌, [], sym, ap, ◌∙◌}
use Rattle.fin_fields.specs.declared.field.Field.{Field}
use Rattle.fin_fields.specs.Headings.{heading_in}
use Rattle.fin_fields.proofs.CutSoFar.{one-begun}
use Rattle.fin_fields.proofs.Plain.{content-of-x}
use Rattle.fin_fields.proofs.cutting.add_line.Goals as goal

pub returns-in_ok-push-in-Some-clause-added : goal.returns-in_ok-push-in-Some-clause-added
returns-in_ok-push-in-Some-clause-added c = λ taken.
    one-begun c.args.fields.now c.push.new.self c.args.line.now (heading_in c.in-Some.heading) c.requires.some (sym c.in-Some.ensures)
    (c.in_ok-push-in-Some.ensures.ok ∙ ap (λ (f : Field). c.args.fields.now ++ f ∷ []) c.begin_field.ensures)

pub begin_field-requires : goal.begin_field-requires
begin_field-requires c = λ plain. content-of-x c.args.line.now (heading_in c.in-Some.heading) (sym c.in-Some.ensures) (c.requires.plain plain)
