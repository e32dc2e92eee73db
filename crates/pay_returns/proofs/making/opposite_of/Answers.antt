use Rattle.std.proofs.Common.{◌≡◌, ◌≤◌, List, ap, arith, length, sym, subst, ◌∙◌}
use Rattle.std.proofs.lemmas.Result.{IfOk-weaker}
use Rattle.day_model.specs.Shape.{HasShape}
use Rattle.day_model.specs.declared.pay.Leg.{Leg}
use Rattle.day_model.specs.declared.pay.Pay.{Pay}
use Rattle.day_model.specs.Chart.{Chart}
use Rattle.day_model.proofs.laws.Fitting.{fitting}
use Rattle.pay_returns.specs.Opposite.{notices_of, opposite_legs, opposite_pay}
use Rattle.pay_returns.specs.inner.Opposite.{AreByteQuotes, AreListed}
use Rattle.pay_returns.specs.Origins.{lent_in}
use Rattle.pay_returns.specs.declared.origin.Origin.{Origin}
use Rattle.pay_returns.proofs.Fits.{legs-listed, opposites-fit}
use Rattle.pay_returns.proofs.Shaped.{return-shape}
use Rattle.pay_returns.proofs.making.opposite_of.Goals as goal

pub notices_of-requires-clause-listed : goal.notices_of-requires-clause-listed
notices_of-requires-clause-listed c =
    let chart = c.args.a.now in
    let legs = c.args.e.now.pay.legs in
    let fit = opposites-fit chart c.args.place legs (fitting chart legs c.requires.fits) in
    subst (AreListed chart) (sym (c.as_slice.ensures ∙ c.in_ok-legs.ensures.value ∙ ap (λ (o : Origin). opposite_legs c.args.place o.legs) c.of-origin.ensures)) (legs-listed chart (opposite_legs c.args.place legs) fit)

pub notices_of-requires-clause-few : goal.notices_of-requires-clause-few
notices_of-requires-clause-few c =
    let chart = c.args.a.now in
    let legs = c.args.e.now.pay.legs in
    let fit = opposites-fit chart c.args.place legs (fitting chart legs c.requires.fits) in
    subst (λ (ls : List Leg). length ls ≤ 3) (sym (c.as_slice.ensures ∙ c.in_ok-legs.ensures.value ∙ ap (λ (o : Origin). opposite_legs c.args.place o.legs) c.of-origin.ensures)) (fitting chart (opposite_legs c.args.place legs) fit).few

pub returns-clause-shape : goal.returns-clause-shape
returns-clause-shape c =
    let chart = c.args.a.now in
    let e = c.args.e.now in
    let place = c.args.place in
    let day = c.args.day in
    let legs = e.pay.legs in
    let many = (fitting chart (opposite_legs place legs) (opposites-fit chart place legs (fitting chart legs c.requires.fits))).many in
    let own = c.as_slice.ensures ∙ c.in_ok-legs.ensures.value ∙ ap (λ (o : Origin). opposite_legs place o.legs) c.of-origin.ensures in
    let sound = c.notices_of.ensures.sound (subst (λ (ls : List Leg). 1 ≤ length ls) (sym own) (omega (arith, many))) in
    let bytes : AreByteQuotes legs = subst AreByteQuotes (ap (λ (o : Origin). o.legs) c.of-origin.ensures) c.in_ok-legs.ensures.bytes in
    let told = c.in_ok-orders.ensures ∙ c.notices_of.ensures.value ∙ ap (notices_of chart) c.as_slice.ensures in
    let shape = return-shape chart e place day sound c.requires.fits c.requires.shape bytes c.requires.bank c.requires.day c.requires.place in
    IfOk-weaker c.opposite_pay.result
    (λ (pay : Pay). (other : Chart) → other.home ≡ c.home.result.now → c.in_ok-orders.orders ≡ notices_of other c.in_ok-legs.legs → pay ≡ opposite_pay other (lent_in c.of-origin.result) place day)
    HasShape
    (λ pay same. subst HasShape (sym (same chart (sym c.home.ensures) told ∙ ap (λ (o : Origin). opposite_pay chart o place day) c.of-origin.ensures)) shape)
    c.opposite_pay.ensures
