use Rattle.std.proofs.Common.{◌≡◌, IfSome, sym, ap, ◌∙◌, subst}
use Rattle.corr_money.specs.declared.amount.Amount.{Amount}
use Rattle.pay_plan.specs.Asked.{Asked, amount_in}
use Rattle.pay_plan.specs.Charging.{IsTaken}
use Rattle.pay_plan.proofs.Apart.{charged-are}
use Rattle.pay_plan.proofs.Planned.{amount-asked, charged-route, home-alone, plan-by, refused-charge, refused-route}
use Rattle.pay_plan.proofs.planning.accounts_of.Goals as goal

pub returns-then-is_for_home-clause-charged : goal.returns-then-is_for_home-clause-charged
returns-then-is_for_home-clause-charged c =
    home-alone c.args.env.now c.args.ask c.args.ssi.now c.args.charges.now c.args.accounts.now c.home.result.now c.home.ensures (sym c.is_for_home.ensures ∙ c.if-is_for_home.true)

pub returns-then-is_for_home-clause-value : goal.returns-then-is_for_home-clause-value
returns-then-is_for_home-clause-value c = λ text.
    plan-by c.args.env.now text c.args.ask c.args.ssi.now c.args.charges.now c.args.accounts.now _
    (home-alone c.args.env.now c.args.ask c.args.ssi.now c.args.charges.now c.args.accounts.now c.home.result.now c.home.ensures (sym c.is_for_home.ensures ∙ c.if-is_for_home.true))

pub returns-in_err-routed-clause-charged : goal.returns-in_err-routed-clause-charged
returns-in_err-routed-clause-charged c =
    refused-route c.args.env.now c.args.ask c.args.asked.now c.args.ssi.now c.args.charges.now c.args.accounts.now c.home.result.now c.from_residual.result c.in_err-routed.field-0.0
    c.requires.asked c.home.ensures (sym c.if-is_for_home.ensures) c.in_err-routed.ensures.value c.from_residual.ensures.1

pub returns-in_err-routed-clause-value : goal.returns-in_err-routed-clause-value
returns-in_err-routed-clause-value c = λ text.
    plan-by c.args.env.now text c.args.ask c.args.ssi.now c.args.charges.now c.args.accounts.now _
    (refused-route c.args.env.now c.args.ask c.args.asked.now c.args.ssi.now c.args.charges.now c.args.accounts.now c.home.result.now c.from_residual.result c.in_err-routed.field-0.0
    c.requires.asked c.home.ensures (sym c.if-is_for_home.ensures) c.in_err-routed.ensures.value c.from_residual.ensures.1)

pub returns-in_err-charge-clause-charged : goal.returns-in_err-charge-clause-charged
returns-in_err-charge-clause-charged c =
    refused-charge c.args.env.now c.args.ask c.args.asked.now c.args.ssi.now c.args.charges.now c.args.accounts.now c.home.result.now c.in_ok-routed.routed c.from_residual-in_err-charge.result
    c.in_err-charge.field-0.0 c.requires.asked c.home.ensures (sym c.if-is_for_home.ensures) c.in_ok-routed.ensures.value c.in_err-charge.ensures.value c.from_residual-in_err-charge.ensures.1

pub returns-in_err-charge-clause-value : goal.returns-in_err-charge-clause-value
returns-in_err-charge-clause-value c = λ text.
    plan-by c.args.env.now text c.args.ask c.args.ssi.now c.args.charges.now c.args.accounts.now _
    (refused-charge c.args.env.now c.args.ask c.args.asked.now c.args.ssi.now c.args.charges.now c.args.accounts.now c.home.result.now c.in_ok-routed.routed c.from_residual-in_err-charge.result
    c.in_err-charge.field-0.0 c.requires.asked c.home.ensures (sym c.if-is_for_home.ensures) c.in_ok-routed.ensures.value c.in_err-charge.ensures.value c.from_residual-in_err-charge.ensures.1)

pub returns-clause-charged : goal.returns-clause-charged
returns-clause-charged c =
    charged-route c.args.env.now c.args.ask c.args.asked.now c.args.ssi.now c.args.charges.now c.args.accounts.now c.home.result.now c.in_ok-routed.routed c.in_ok-charge.charge
    c.requires.asked c.home.ensures (sym c.if-is_for_home.ensures) c.in_ok-routed.ensures.value c.in_ok-charge.ensures.value

pub returns-clause-value : goal.returns-clause-value
returns-clause-value c = λ text.
    plan-by c.args.env.now text c.args.ask c.args.ssi.now c.args.charges.now c.args.accounts.now _
    (charged-route c.args.env.now c.args.ask c.args.asked.now c.args.ssi.now c.args.charges.now c.args.accounts.now c.home.result.now c.in_ok-routed.routed c.in_ok-charge.charge
    c.requires.asked c.home.ensures (sym c.if-is_for_home.ensures) c.in_ok-routed.ensures.value c.in_ok-charge.ensures.value)

pub returns-clause-accounts : goal.returns-clause-accounts
returns-clause-accounts c =
    let asked = c.args.asked.now in
    let amount : amount_in c.args.ask ≡ asked.amount = amount-asked c.args.accounts.now.home c.args.ask ∙ ap (λ (a : Asked). a.amount) (sym c.requires.asked) in
    let taken = subst (λ (a : Amount). IfSome c.in_ok-charge.charge (IsTaken c.args.accounts.now a)) amount c.in_ok-charge.ensures.taken in
    charged-are c.args.env.now asked c.args.ssi.now c.args.accounts.now c.in_ok-routed.routed c.in_ok-charge.charge (sym c.in_ok-routed.ensures.value) c.in_ok-routed.ensures.accounts taken
