use Rattle.std.proofs.Common.{◌∙◌, ◌*◌, ◌≤◌, List, ℕ, arith, length, subst, sym}
use Rattle.corr_report.proofs.laws.DayFile.{day_cut, day_short}
use Rattle.corr_top.specs.MessageFile.{IsMessageFile}
use Rattle.corr_top.proofs.Trying.{served_trial, stands_trial}
use Rattle.corr_top.proofs.trial.run_trial.Goals as goal

pub cut_day-requires : goal.cut_day-requires
cut_day-requires g c =
    let count = c.args.count in
    let day : length c.in_ok-text.text ≤ count * 601 = subst (λ (bs : List ℕ). length bs ≤ count * 601) (sym c.in_ok-text.ensures) (day_short count c.args.seed c.requires.count) in
    subst (λ (bs : List ℕ). length bs ≤ 67108865) (sym c.bytes.ensures) (omega (arith, day, c.requires.count))

pub returns-in-Ok-served-clause-served : goal.returns-in-Ok-served-clause-served
returns-in-Ok-served-clause-served g c =
    let messages = c.in_ok-messages.messages in
    let file = subst (λ (bs : List ℕ). IsMessageFile bs messages) (c.bytes.ensures ∙ c.in_ok-text.ensures) c.in_ok-messages.ensures in
    let cut = c.into_vec-messages.ensures ∙ day_cut c.args.count c.args.seed messages c.requires.count file.cut in
    served_trial _ _ c.in-Ok.ensures.accounts _ c.args.count c.args.seed c.in_ok-directory.directory c.into_vec-messages.result.items c.in-Ok-served.day.closed.accounts c.in-Ok-served.day.closed.history.entries c.in-Ok-served.day.closed.disk c.in_ok-directory.ensures.value cut c.in-Ok.ensures.base c.in-Ok.ensures.day c.in-Ok-served.ensures.served.left

pub returns-in-Ok-served-clause-journal : goal.returns-in-Ok-served-clause-journal
returns-in-Ok-served-clause-journal g c = stands_trial _ _ c.in-Ok.ensures.accounts c.in-Ok-served.day.closed.history.entries c.in-Ok-served.day.closed.disk c.in-Ok.ensures.faults c.in-Ok-served.ensures.served.left.leaves
