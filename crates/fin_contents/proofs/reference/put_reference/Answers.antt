use Rattle.std.proofs.Common.{[], ◌∷◌, None, ap, arith}
use Rattle.fin_contents.specs.Writing.{line_field}
use Rattle.fin_contents.proofs.laws.Again.{reference-again, reference-kept}
use Rattle.fin_contents.proofs.laws.Fit.{kept-fit}
use Rattle.fin_contents.proofs.laws.Steps.{field-written}
use Rattle.fin_contents.proofs.reference.put_reference.Goals as goal

pub returns-clause-again : goal.returns-clause-again
returns-clause-again c =
    field-written c.line_field.result _ _ _ c.line_field.ensures (ap (line_field c.args.tag None) c.bytes.ensures) (λ read e. reference-again c.args.tag None read c.args.reference.now e)

pub returns-clause-fit : goal.returns-clause-fit
returns-clause-fit c =
    field-written c.line_field.result _ _ _ c.line_field.ensures (ap (line_field c.args.tag None) c.bytes.ensures)
    (λ read e is small. kept-fit c.args.tag None read (c.args.reference.now ∷ []) (record { two_digits = omega arith; capital = tt }) (reference-kept read c.args.reference.now e) is)
