use Rattle.std.proofs.Common.{sym, subst}
use Rattle.day_model.specs.Fit.{FitsAccounts}
use Rattle.day_model.specs.Shape.{HasShape}
use Rattle.fin_contents.specs.Money.{IsPayable}
use Rattle.pay_plan.specs.Asked.{Asked}
use Rattle.pay_plan.specs.Plan.{pay_of}
use Rattle.pay_plan.specs.Way.{way_of}
use Rattle.pay_plan.proofs.Planned.{on-pay, received}
use Rattle.pay_plan.proofs.Fitting.{legs-are, legs-fit}
use Rattle.pay_plan.proofs.Readable.{asked-amount}
use Rattle.pay_plan.proofs.Shaped.{AskedForm, asked-form, shaped}
use Rattle.pay_plan.proofs.planning.pay_on.Goals as goal

pub returns-clause-fit : goal.returns-clause-fit
returns-clause-fit c =
    let chart = c.args.accounts.now in
    let charged = c.args.charged.now in
    let asked = c.args.asked.now in
    let of = c.requires.message in
    let amount : IsPayable asked.amount = subst (λ (q : Asked). IsPayable q.amount) (sym of.2) (asked-amount of.1.0 chart.home of.0 of.1.1) in
    on-pay c.pay_of.result (pay_of c.args.env.now c.args.text asked charged chart) (λ p. FitsAccounts chart p) c.pay_of.ensures.value c.pay_of.ensures.sound c.pay_of.ensures.owner
    (λ sound owner. legs-fit chart (way_of asked.mt asked.target charged.routed.method) asked charged c.requires.accounts amount)

pub returns-clause-form : goal.returns-clause-form
returns-clause-form c = λ writable.
    let chart = c.args.accounts.now in
    let charged = c.args.charged.now in
    let asked = c.args.asked.now in
    let of = c.requires.message in
    let t = of.1.0 in
    let form : AskedForm t asked = subst (AskedForm t) (sym of.2) (asked-form t chart.home of.0 of.1.1) in
    let amount : IsPayable asked.amount = subst (λ (q : Asked). IsPayable q.amount) (sym of.2) (asked-amount t chart.home of.0 of.1.1) in
    let are = legs-are (way_of asked.mt asked.target charged.routed.method) asked charged chart c.requires.accounts amount in
    on-pay c.pay_of.result (pay_of c.args.env.now c.args.text asked charged chart) HasShape c.pay_of.ensures.value c.pay_of.ensures.sound c.pay_of.ensures.owner
    (λ sound owner. shaped t c.args.env.now c.args.text asked charged chart (received c.args.env.now c.args.mir c.requires.reference) writable form c.requires.accounts c.requires.via are sound owner)
