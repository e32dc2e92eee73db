use Rattle.std.proofs.Common.{◌≡◌, ◌+◌, ◌-◌, ◌++◌, ◌∙◌, All, List, ap, arith, drop, length, subst, sym}
use Rattle.fin_frame.specs.Pieces.{IsPlaceIn, at_places}
use Rattle.fin_frame.specs.declared.place.Place.{Place}
use Rattle.corr_top.specs.declared.stream.Stage.{Stage}
use Rattle.corr_top.specs.inner.Stream.{IsStreamOf}
use Rattle.corr_top.proofs.StreamSteps.{kept_stream, place_room}
use Rattle.corr_top.proofs.stream.MessageFile.keep.Goals as goal

pub returns-in-Err-clause-stream : goal.returns-in-Err-clause-stream
returns-in-Err-clause-stream g c = λ left faults is.
    c.stop.ensures.stream left faults (place_room g.S.Source left faults c.args.self.now c.reserve.new.self c.reserve.ensures.items is)

pub returns-clause-stream : goal.returns-clause-stream
returns-clause-stream g c = λ left faults is.
    let f = c.args.self.now in
    let places = c.note_places.new.places in
    let noted = c.note_places.ensures in
    let old_is : c.reserve.new.self.items ≡ f.places.items = c.reserve.ensures.items in
    let found_is : c.as_slice.result.now ≡ f.found.items = c.as_slice.ensures.value in
    let rest = drop f.taken f.text in
    let each = noted.each f.text ∙ (λ i. at_places f.text (old_is i) ++ at_places rest (found_is i)) in
    let within = c.requires.within in
    let few = c.requires.few in let count = noted.count in let old_few = ap length old_is in let found_few = ap length found_is in
    let all = noted.within (length f.text) (omega (arith, within)) (subst (λ (ps : List Place). All (IsPlaceIn (length f.text)) ps) (sym old_is) is.places)
    (subst (λ (ps : List Place). All (IsPlaceIn (length f.text - f.taken)) ps) (sym found_is) c.requires.places) in
    subst (λ (s : Stage). IsStreamOf g.S.Source left faults (record f { taken = f.taken + c.args.count; cutter = c.args.cutter; places = places; stage = s })) (sym c.at-self.ensures)
    (kept_stream g.S.Source left faults f c.args.cutter c.args.count places each c.args.ended is c.requires.going c.requires.within (omega (arith, few, count, old_few, found_few)) all
    c.requires.took c.requires.led c.requires.whole c.requires.ended)
