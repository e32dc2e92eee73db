use Rattle.std.proofs.Common.{[], ◌∷◌, None, ap, arith}
use Rattle.fin_contents.specs.Writing.{line_field}
use Rattle.fin_contents.proofs.laws.Again.{rate-again, rate-kept}
use Rattle.fin_contents.proofs.laws.Fit.{kept-fit}
use Rattle.fin_contents.proofs.laws.Steps.{field-written}
use Rattle.fin_contents.proofs.rate.put_rate.Goals as goal

pub returns-clause-again : goal.returns-clause-again
returns-clause-again c =
    field-written c.line_field.result _ _ _ c.line_field.ensures (ap (line_field 36 None) c.bytes.ensures) (λ read e. rate-again 36 None read c.args.rate.now e)

pub returns-clause-fit : goal.returns-clause-fit
returns-clause-fit c =
    field-written c.line_field.result _ _ _ c.line_field.ensures (ap (line_field 36 None) c.bytes.ensures)
    (λ read e is. kept-fit 36 None read (c.args.rate.now ∷ []) (record { two_digits = omega arith; capital = tt }) (rate-kept read c.args.rate.now e) is)
