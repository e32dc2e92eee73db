use Rattle.std.proofs.Common.{◌∙◌, ap, refl, subst, sym}
use Rattle.corr_ids.specs.Bic.{IsBic}
use Rattle.jrn_codec.specs.Header.{IsHead, head_bytes}
use Rattle.corr_top.proofs.Sampling.{chart_sampled, home_formed}
use Rattle.corr_top.proofs.trial.sample_head.Goals as goal

pub returns-in-Ok : goal.returns-in-Ok
returns-in-Ok c =
    let fine = c.in-Ok.ensures.fine in
    let same = chart_sampled _ (λ s. refl) c.in_ok-tables.tables c.prepare-prepared.new.tables c.in_ok-tables.ensures c.sample_home.result fine.0 c.sample_home.ensures fine.1 in
    (fine.3 ∙ ap head_bytes same, subst IsHead same fine.2)

pub prepare-prepared-requires : goal.prepare-prepared-requires
prepare-prepared-requires c = subst IsBic (sym c.sample_home.ensures) home_formed
