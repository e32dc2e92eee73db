use Rattle.std.proofs.Common.{List, None, Option, ◌∙◌, subst}
use Rattle.day_model.specs.declared.account.Account.{Account}
use Rattle.day_model.specs.declared.gap.Gap.{Gap}
use Rattle.day_model.specs.Chart.{AreBalanced}
use Rattle.day_model.specs.inner.Gap.{FirstGap}
use Rattle.day_model.proofs.laws.Changing.{keeps_first}
use Rattle.day_model.proofs.accounts.Accounts.new.Goals as goal

pub invariant_of-result : goal.invariant_of-result
invariant_of-result c =
    let balanced : AreBalanced c.args.rows =
    subst (λ (l : List Account). FirstGap l None) c.as_slice.ensures
    (subst (λ (o : Option Gap). FirstGap c.as_slice.result.now o) c.in-None.is c.in_ok-first_gap.ensures) in
    keeps_first _ c.in_ok-of-in-None.field-0 c.new.ensures.items c.requires balanced (c.in_ok-of-in-None.ensures ∙ c.as_slice-in-None.ensures)
