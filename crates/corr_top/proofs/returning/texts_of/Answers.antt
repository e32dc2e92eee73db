use Rattle.std.proofs.Common.{ℕ, subst}
use Rattle.corr_top.specs.inner.Collecting.{IsCalm}
use Rattle.corr_top.proofs.Returned.{at_end}
use Rattle.corr_top.proofs.returning.texts_of.Goals as goal

pub returns : goal.returns
returns g c =
    let replied = c.in_ok-check_replies.ensures in
    let day = c.args.day.now in
    let calm = subst (λ (n : ℕ). IsCalm c.args.before n) c.faults.ensures replied.calm in
    (replied.answered.0, replied.answered.1, calm, at_end day.accounts day.history.entries c.len.result _ c.len.ensures.count c.in_ok-entry_texts.ensures)
