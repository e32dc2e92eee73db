use Rattle.std.proofs.Common.{◌≡◌, ap, arith}
use Rattle.std.proofs.lemmas.Grind.{common_steps}
use Rattle.fin_contents.specs.Writing.{ccy_amount_text, line_field}
use Rattle.fin_contents.proofs.laws.Again.{ccy_amount-again}
use Rattle.fin_contents.proofs.laws.Fit.{ccy_amount-fit}
use Rattle.fin_contents.proofs.laws.Steps.{field-written}
use Rattle.fin_contents.proofs.amount.put_ccy_amount.Goals as goal

pub returns-clause-again : goal.returns-clause-again
returns-clause-again c =
    let line : c.bytes.result.now ≡ ccy_amount_text c.args.amount.now = grind (arith, common_steps) in
    field-written c.line_field.result _ _ _ c.line_field.ensures (ap (line_field c.args.tag c.args.letter) line)
    (λ t read e. ccy_amount-again c.args.tag c.args.letter t read c.args.amount.now c.requires e)

pub returns-clause-fit : goal.returns-clause-fit
returns-clause-fit c =
    let line : c.bytes.result.now ≡ ccy_amount_text c.args.amount.now = grind (arith, common_steps) in
    field-written c.line_field.result _ _ _ c.line_field.ensures (ap (line_field c.args.tag c.args.letter) line)
    (λ t read e h. ccy_amount-fit c.args.tag c.args.letter t read c.args.amount.now h c.requires e)
