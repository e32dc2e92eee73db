use Rattle.std.proofs.Common.{◌∙◌, sym}
use Rattle.std.specs.Option.{option_copied}
use Rattle.ssi_versions.proofs.Order.{got, next-shares}
use Rattle.ssi_versions.proofs.index.shares_any_day.Goals as goal

pub returns-else-shares_a_day_at : goal.returns-else-shares_a_day_at
returns-else-shares_a_day_at c =
    let places = c.args.places.now in
    let n = c.begun_by-begun.result in
    let next = got places n c.get.result c.get.ensures.lookup.0 c.get.ensures.lookup.1 in
    c.shares_a_day_at-else-shares_a_day_at.ensures
    ∙ next-shares c.args.rows.now places c.requires c.args.row.now n 0 c.begun_by-begun.ensures.bound c.begun_by-begun.ensures.point (option_copied c.last.result) (option_copied c.get.result) c.last.ensures.value next
    (sym c.shares_a_day_at.ensures ∙ c.if-shares_a_day_at.false)
