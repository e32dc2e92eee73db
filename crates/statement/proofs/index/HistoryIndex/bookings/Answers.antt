use Rattle.std.proofs.Common.{◌∷◌, [], take, sym, subst}
use Rattle.std.specs.Prelude.{All}
use Rattle.std.proofs.lemmas.List.Elements.{All-append}
use Rattle.day_model.specs.declared.pay.Leg.{Leg}
use Rattle.pay_returns.specs.References.{IsByteQuote}
use Rattle.statement.proofs.Adding.{all-one, next-fit}
use Rattle.statement.proofs.Pushing.{bookings-more, next-leg, take-leg}
use Rattle.statement.proofs.index.HistoryIndex.bookings.Goals as goal

pub movement-requires-clause-next : goal.movement-requires-clause-next
movement-requires-clause-next c =
    let book = c.requires.next.0 in
    let next = c.requires.next.1 in
    let legs = c.as_slice-leg-items in
    let leg = next-leg book.chart c.args.e.now legs.result.now c.loop-leg.leg-index c.leg-item.result (next-fit c.args.self.now c.args.e.now book next) c.requires.booked legs.ensures c.loop-leg-test.true c.leg-item.is in
    (book, next, leg.listed)

pub movement-requires-clause-only : goal.movement-requires-clause-only
movement-requires-clause-only c =
    let book = c.requires.next.0 in
    let next = c.requires.next.1 in
    let legs = c.as_slice-leg-items in
    let leg = next-leg book.chart c.args.e.now legs.result.now c.loop-leg.leg-index c.leg-item.result (next-fit c.args.self.now c.args.e.now book next) c.requires.booked legs.ensures c.loop-leg-test.true c.leg-item.is in
    leg.only

pub movement-requires-clause-amount : goal.movement-requires-clause-amount
movement-requires-clause-amount c =
    let book = c.requires.next.0 in
    let next = c.requires.next.1 in
    let legs = c.as_slice-leg-items in
    let leg = next-leg book.chart c.args.e.now legs.result.now c.loop-leg.leg-index c.leg-item.result (next-fit c.args.self.now c.args.e.now book next) c.requires.booked legs.ensures c.loop-leg-test.true c.leg-item.is in
    leg.small

pub loop-leg-preserved : goal.loop-leg-preserved
loop-leg-preserved c =
    let l = c.loop-leg in
    let legs = c.as_slice-leg-items.result.now in
    let leg = c.leg-item.result in
    let Quotes : Leg → Type 0 = λ x. IsByteQuote x.quote in
    record {
      made = λ book next.
          bookings-more book.chart book.entries c.args.e.now legs l.leg-index leg l.bookings c.push.new.self c.in_ok-movement.field-0 c.loop-leg-test.true c.leg-item.is
          (l.invariant.made book next) (c.in_ok-movement.ensures.value book next) c.in_ok-push.ensures.ok;
      quotes = subst (All Quotes) (sym (take-leg legs l.leg-index leg c.loop-leg-test.true c.leg-item.is))
          (All-append Quotes (take l.leg-index legs) (leg ∷ []) l.invariant.quotes (all-one Quotes leg c.in_ok-movement.ensures.quote));
    }
