use Rattle.std.proofs.Common.{◌∙◌, false, sym, true}
use Rattle.ssi_versions.proofs.Order.{last-asked, none-asked}
use Rattle.ssi_versions.proofs.index.first_in_force.Goals as goal

pub returns-in_err-at : goal.returns-in_err-at
returns-in_err-at c =
    c.from_residual.ensures ∙ none-asked c.args.rows.now c.args.places.now c.requires c.args.day c.begun_by.result 0 c.begun_by.ensures.bound c.begun_by.ensures.point c.args.ccy c.args.bank.now c.in_err-at.ensures.value

pub returns-then-is_asked_at : goal.returns-then-is_asked_at
returns-then-is_asked_at c =
    last-asked c.args.rows.now c.args.places.now c.requires c.args.day c.begun_by.result 0 c.begun_by.ensures.bound c.begun_by.ensures.point c.args.ccy c.args.bank.now c.in_ok-at.field-0.now true
    c.in_ok-at.ensures.value (sym c.is_asked_at.ensures ∙ c.if-is_asked_at.true)

pub returns-else-is_asked_at : goal.returns-else-is_asked_at
returns-else-is_asked_at c =
    last-asked c.args.rows.now c.args.places.now c.requires c.args.day c.begun_by.result 0 c.begun_by.ensures.bound c.begun_by.ensures.point c.args.ccy c.args.bank.now c.in_ok-at.field-0.now false
    c.in_ok-at.ensures.value (sym c.is_asked_at.ensures ∙ c.if-is_asked_at.false)
