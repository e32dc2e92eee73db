use Rattle.std.proofs.Common.{subst, sym}
use Rattle.day_model.specs.Chart.{Chart}
use Rattle.day_model.specs.Legal.{IsLegal}
use Rattle.corr_top.proofs.Trying.{trial_told}
use Rattle.corr_top.proofs.trial.trial_texts.Goals as goal

pub sum_up-summed-requires : goal.sum_up-summed-requires
sum_up-summed-requires g c =
    let closed = c.in_ok-closed.closed in
    let served = c.in_ok-closed.ensures.served in
    subst (λ (chart : Chart). IsLegal chart closed.history.entries) (sym served.accounts_are) served.legal

pub returns : goal.returns
returns g c = trial_told c.args.count c.args.seed c.in_ok-closed.closed.accounts c.in_ok-closed.closed.history.entries _ c.in_ok-closed.ensures.served c.in_ok-report.ensures.whole c.in_ok-report.ensures.value c.in_ok-out.ensures
