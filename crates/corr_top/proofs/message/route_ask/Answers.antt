use Rattle.std.proofs.Common.{ℕ, List, Ok, sym, ap, ◌∙◌}
use Rattle.corr_ids.specs.declared.bic.Bic.{Bic}
use Rattle.pay_plan.specs.Asked.{asked_of}
use Rattle.pay_plan.specs.Plan.{pay_of}
use Rattle.corr_top.proofs.Routes.{no_plan, plan_on}
use Rattle.corr_top.proofs.message.route_ask.Goals as goal

pub accounts_of-requires : goal.accounts_of-requires
accounts_of-requires c = record { asked = c.asked_of-asked.ensures ∙ ap (λ (home : Bic). asked_of home c.args.ask) c.home.ensures }

pub returns-in-Ok-clause-asks : goal.returns-in-Ok-clause-asks
returns-in-Ok-clause-asks c = record {
  reference = c.reference.ensures.there;
  message = (c.args.ask, c.requires.read, c.asked_of-asked.ensures ∙ ap (λ (home : Bic). asked_of home c.args.ask) c.home.ensures);
  accounts = c.in-Ok.ensures.accounts;
  via = c.in-Ok.ensures.via;
}

pub returns-in-Ok-clause-plan : goal.returns-in-Ok-clause-plan
returns-in-Ok-clause-plan c =
    let directory = c.args.directory.now in
    let asked_is = c.asked_of-asked.ensures ∙ ap (λ (home : Bic). asked_of home c.args.ask) c.home.ensures in
    plan_on c.args.envelope.now c.args.text.now c.args.ask c.asked_of-asked.result directory.ssi directory.charges c.args.accounts.now c.accounts_of.result c.in-Ok.charged asked_is
    (c.accounts_of.ensures.value c.args.text.now) c.in-Ok.is
    ∙ ap (λ (t : List ℕ). Ok (pay_of c.args.envelope.now t c.asked_of-asked.result c.in-Ok.charged c.args.accounts.now)) (sym c.replace.ensures.value)

pub returns-in-Err-clause-refused : goal.returns-in-Err-clause-refused
returns-in-Err-clause-refused c =
    let directory = c.args.directory.now in
    no_plan c.args.envelope.now c.args.text.now c.args.ask directory.ssi directory.charges c.args.accounts.now c.accounts_of.result c.in-Err.code (c.accounts_of.ensures.value c.args.text.now) c.in-Err.is
