use Rattle.std.proofs.Common.{◌∙◌, ℕ, List, ap, length, refl, subst, sym}
use Rattle.fin_frame.specs.Pieces.{at_places}
use Rattle.fin_frame.specs.declared.place.Place.{Place}
use Rattle.corr_top.specs.inner.Batching.{AreInText}
use Rattle.corr_top.proofs.OwnedBatches.{in_text_more, message_more}
use Rattle.corr_top.proofs.batching.put_message.Goals as goal

pub returns-clause-put : goal.returns-clause-put
returns-clause-put c =
    let text_is = c.in_ok-push.ensures.ok in
    let places_is = c.push_reserved.ensures.items in
    let place : Place = record { from = length c.bytes.result.now; len = length c.args.message.now } in
    (λ i. at_places (text_is i) (places_is i)) ∙ message_more c.args.text.now c.args.message.now c.args.places.now.items place (ap length c.bytes.ensures) refl c.requires.within.within

pub returns-clause-within : goal.returns-clause-within
returns-clause-within c =
    let text_is = c.in_ok-push.ensures.ok in
    let places_is = c.push_reserved.ensures.items in
    let place : Place = record { from = length c.bytes.result.now; len = length c.args.message.now } in
    subst (λ (x : List ℕ × List Place). AreInText x.0 x.1) (λ i. (sym text_is i, sym places_is i))
    (in_text_more c.args.text.now c.args.message.now c.args.places.now.items place (ap length c.bytes.ensures) refl c.requires.short c.requires.within)
