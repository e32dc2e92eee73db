use Rattle.std.proofs.Common.{sym, ◌∙◌}
use Rattle.day_model.specs.Chart.{has_id}
use Rattle.day_model.proofs.laws.Places.{listed}
use Rattle.routing.proofs.Fitting.{named-None, named-Some, named-other, named-Fits}
use Rattle.routing.proofs.ledger.named.Goals as goal

pub returns-in_err-n-clause-value : goal.returns-in_err-n-clause-value
returns-in_err-n-clause-value c =
    c.from_residual.ensures ∙ sym (named-None c.args.id.now c.args.wanted.now c.args.amount.now c.args.a.now (sym c.find.ensures ∙ c.in_err-n.was))

pub get-requires : goal.get-requires
get-requires c = listed (has_id c.args.id.now) c.args.a.now c.in_ok-n.n (sym c.find.ensures ∙ c.in_ok-n.was)

pub returns-then-not-serves-clause-value : goal.returns-then-not-serves-clause-value
returns-then-not-serves-clause-value c =
    sym (named-other c.args.id.now c.args.wanted.now c.args.amount.now c.args.a.now c.in_ok-n.n c.get.result.now c.get.ensures.sound.rows
    (sym c.find.ensures ∙ c.in_ok-n.was) c.get.ensures.value (sym c.serves.ensures ∙ c.if-not-serves.true))

pub returns-clause-value : goal.returns-clause-value
returns-clause-value c =
    sym (named-Some c.args.id.now c.args.wanted.now c.args.amount.now c.args.a.now c.in_ok-n.n c.get.result.now
    (sym c.find.ensures ∙ c.in_ok-n.was) c.get.ensures.value (sym c.serves.ensures ∙ c.if-not-serves.false))

pub returns-clause-fits : goal.returns-clause-fits
returns-clause-fits c =
    named-Fits c.args.id.now c.args.wanted.now c.args.amount.now c.args.a.now c.in_ok-n.n
    (named-Some c.args.id.now c.args.wanted.now c.args.amount.now c.args.a.now c.in_ok-n.n c.get.result.now
    (sym c.find.ensures ∙ c.in_ok-n.was) c.get.ensures.value (sym c.serves.ensures ∙ c.if-not-serves.false))
