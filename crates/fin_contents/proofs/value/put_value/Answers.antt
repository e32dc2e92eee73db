use Rattle.std.proofs.Common.{◌≡◌, ◌++◌, Some, ap, arith}
use Rattle.std.proofs.lemmas.Grind.{common_steps}
use Rattle.corr_ids.specs.Day.{yymmdd_of}
use Rattle.fin_contents.specs.Writing.{ccy_amount_text, line_field}
use Rattle.fin_contents.proofs.laws.Again.{value-again}
use Rattle.fin_contents.proofs.laws.Fit.{value-fit}
use Rattle.fin_contents.proofs.laws.Steps.{field-written}
use Rattle.fin_contents.proofs.value.put_value.Goals as goal

pub returns-clause-again : goal.returns-clause-again
returns-clause-again c =
    let line : c.bytes.result.now ≡ yymmdd_of c.args.value.now.day ++ ccy_amount_text c.args.value.now.amount = grind (arith, common_steps) in
    field-written c.line_field.result _ _ _ c.line_field.ensures (ap (line_field 32 (Some 65)) line) (λ t read e. value-again t read c.args.value.now c.requires e)

pub returns-clause-fit : goal.returns-clause-fit
returns-clause-fit c =
    let line : c.bytes.result.now ≡ yymmdd_of c.args.value.now.day ++ ccy_amount_text c.args.value.now.amount = grind (arith, common_steps) in
    field-written c.line_field.result _ _ _ c.line_field.ensures (ap (line_field 32 (Some 65)) line) (λ t read e. value-fit t read c.args.value.now c.requires e)
