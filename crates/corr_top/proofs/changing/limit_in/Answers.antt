use Rattle.std.proofs.Common.{◌≡◌, ◌∙◌, ap, refl, rules, of_z, to_z, w64}
use Rattle.day_model.specs.declared.change.What.TheVariants.{Limits}
use Rattle.day_model.specs.Chart.{Chart}
use Rattle.jrn_file.specs.File.{disk_of}
use Rattle.corr_top.specs.declared.account_words.AccountChange.TheVariants.{Limit}
use Rattle.corr_top.specs.Changed.{number_of_id}
use Rattle.corr_top.proofs.AccountChanges.{opened_texts, opening_stops}
use Rattle.corr_top.proofs.changing.limit_in.Goals as goal

pub returns-in-Err-clause-gives : goal.returns-in-Err-clause-gives
returns-in-Err-clause-gives g c = λ known.
    let e = c.in-Err.ensures in
    opening_stops g.D.Disk c.args.disk c.in-Err.disk known (Limit c.args.id.now c.args.ends.now) c.in-Err.fault _ c.from.ensures e.cause e.told e.untouched

pub returns-clause-gives : goal.returns-clause-gives
returns-clause-gives g c = λ known.
    let e = c.in-Ok.ensures in
    let past = c.in-Ok.opened.0 in
    let id = c.args.id.now in
    let floor : to_z w64 (of_z w64 c.args.ends.now.floor) ≡ c.args.ends.now.floor = search rules in
    let ceil : to_z w64 (of_z w64 c.args.ends.now.ceil) ≡ c.args.ends.now.ceil = search rules in
    let number = c.number_of-account.ensures ∙ ap (λ (x : Chart). number_of_id id x) c.accounts.ensures.value in
    opened_texts g.D.Disk c.args.disk (disk_of c.in-Ok.opened.1) known past.accounts past.history e.journal e.told e.untouched e.kept e.honest c.enter.result.0 (Limit id c.args.ends.now) _ c.enter.result.1 refl
    (λ k. Limits (number k) (floor k) (ceil k)) c.enter.ensures.gives
