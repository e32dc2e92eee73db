use Rattle.std.proofs.Common.{sym, ◌∙◌, subst}
use Rattle.std.proofs.lemmas.Option.{same_Some}
use Rattle.corr_ids.specs.Bic.{IsBic}
use Rattle.day_model.specs.declared.account.Account.{Account}
use Rattle.pay_plan.proofs.planning.pay_of.Goals as goal

-- the account is the one that was looked up
pub returns-clause-owner : goal.returns-clause-owner
returns-clause-owner c = λ x at. subst (λ (a : Account). IsBic a.owner) (same_Some _ _ (sym c.get.ensures.value ∙ at)) c.get.ensures.owner
