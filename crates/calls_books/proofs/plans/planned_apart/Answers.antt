use Rattle.std.proofs.Common.{ap, ◌∙◌}
use Rattle.corr_ids.specs.declared.bic.Bic.{Bic}
use Rattle.pay_plan.specs.Asked.{asked_of}
use Rattle.pay_plan.specs.declared.ask.Ask.TheVariants.{Transfer}
use Rattle.calls_books.proofs.plans.planned_apart.Goals as goal

pub pay_on-requires-clause-message : goal.pay_on-requires-clause-message
pay_on-requires-clause-message c =
    (Transfer c.args.m, (c.args.desk.now.tables, c.requires), c.asked_of-asked.ensures ∙ ap (λ (home : Bic). asked_of home (Transfer c.args.m)) c.home.ensures)
