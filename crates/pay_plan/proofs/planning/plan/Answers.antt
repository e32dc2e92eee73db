use Rattle.std.proofs.Common.{◌≡◌, ap, ◌∙◌}
use Rattle.corr_ids.specs.declared.bic.Bic.{Bic}
use Rattle.pay_plan.specs.Asked.{Asked, asked_of}
use Rattle.pay_plan.specs.Plan.{pay_of, plan_of}
use Rattle.pay_plan.proofs.Planned.{planned, refused-by}
use Rattle.pay_plan.proofs.planning.plan.Goals as goal

pub accounts_of-requires : goal.accounts_of-requires
accounts_of-requires c = record { asked = c.asked_of-asked.ensures ∙ ap (λ (home : Bic). asked_of home c.args.ask) c.home.ensures }

pub pay_on-requires-clause-message : goal.pay_on-requires-clause-message
pay_on-requires-clause-message c = (c.args.ask, c.requires.message, c.asked_of-asked.ensures ∙ ap (λ (home : Bic). asked_of home c.args.ask) c.home.ensures)

pub returns-in_err-charged-clause-plan : goal.returns-in_err-charged-clause-plan
returns-in_err-charged-clause-plan c =
    refused-by c.from_residual.result c.in_err-charged.field-0.0 (plan_of c.args.env.now c.args.text.now c.args.ask c.args.ssi.now c.args.charges.now c.args.accounts.now) c.from_residual.ensures.1
    (c.in_err-charged.ensures.value c.args.text.now)

pub returns-clause-plan : goal.returns-clause-plan
returns-clause-plan c =
    let chart = c.args.accounts.now in
    let pay = pay_of c.args.env.now c.args.text.now (asked_of chart.home c.args.ask) c.in_ok-charged.charged chart in
    let is : c.asked_of-asked.result ≡ asked_of chart.home c.args.ask = c.asked_of-asked.ensures ∙ ap (λ (home : Bic). asked_of home c.args.ask) c.home.ensures in
    let lines = c.in_ok-lines.ensures in
    let paid = c.in_ok-pay_on.ensures.value ∙ (λ i. pay_of c.args.env.now (lines i) (is i) c.in_ok-charged.charged chart) in
    planned c.in_ok-pay_on.field-0 pay (plan_of c.args.env.now c.args.text.now c.args.ask c.args.ssi.now c.args.charges.now chart) paid (c.in_ok-charged.ensures.value c.args.text.now)
