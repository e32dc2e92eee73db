use Rattle.std.proofs.Common.{[], ◌∷◌, Some, ap, refl, arith}
use Rattle.fin_contents.specs.Writing.{line_field}
use Rattle.fin_contents.proofs.laws.Again.{time-again, time-kept}
use Rattle.fin_contents.proofs.laws.Fit.{kept-fit}
use Rattle.fin_contents.proofs.laws.Steps.{field-written}
use Rattle.fin_contents.proofs.time.put_time.Goals as goal

pub returns-clause-again : goal.returns-clause-again
returns-clause-again c =
    field-written c.line_field.result _ _ _ c.line_field.ensures (ap (line_field 13 (Some 67)) c.bytes.ensures) (λ read e. time-again 13 (Some 67) read c.args.time.now e)

pub returns-clause-fit : goal.returns-clause-fit
returns-clause-fit c =
    field-written c.line_field.result _ _ _ c.line_field.ensures (ap (line_field 13 (Some 67)) c.bytes.ensures)
    (λ read e is. kept-fit 13 (Some 67) read (c.args.time.now ∷ []) (record { two_digits = omega arith; capital = refl }) (time-kept read c.args.time.now e) is)
