use Rattle.std.proofs.Common.{◌≡◌, ◌∙◌, ◌++◌, ℕ, All, List, ap, arith, map, subst, sym, take}
use lib.Seq.{take_all}
use Rattle.std.proofs.lemmas.List.{map-append}
use Rattle.std.proofs.lemmas.List.Elements.{All-append}
use Rattle.fin_frame.specs.Pieces.{IsPlaceIn, at_place, at_places}
use Rattle.fin_frame.specs.declared.place.Place.{Place}
use Rattle.corr_top.specs.inner.Batching.{behind}
use Rattle.corr_top.proofs.OwnedBatches.{places_behind}
use Rattle.corr_top.proofs.StreamSteps.{behind_in}
use Rattle.corr_top.proofs.stream.note_places.Goals as goal

-- all were put behind the others
all_put : (found old new : List Place) (begin index : ℕ) → new ≡ old ++ map (behind begin) (take index found) → take index found ≡ found → new ≡ old ++ map (behind begin) found
all_put found old new begin index put all = put ∙ ap (λ (ps : List Place). old ++ map (behind begin) ps) all

pub returns-clause-each : goal.returns-clause-each
returns-clause-each c = λ text.
    let old = c.args.places.now.items in
    let found = c.args.found.now in
    let begin = c.args.begin in
    ap (at_places text) (all_put found old c.loop-place.places.items begin c.loop-place.place-index c.loop-place.invariant.put (take_all c.loop-place.place-index found (omega (arith, c.loop-place-test.false))))
    ∙ map-append (at_place text) old (map (behind begin) found)
    ∙ ap (λ (ms : List (List ℕ)). at_places text old ++ ms) (places_behind begin text found)

pub returns-clause-within : goal.returns-clause-within
returns-clause-within c = λ size fits before found_in.
    let old = c.args.places.now.items in
    let found = c.args.found.now in
    let begin = c.args.begin in
    subst (λ (ps : List Place). All (IsPlaceIn size) ps)
    (sym (all_put found old c.loop-place.places.items begin c.loop-place.place-index c.loop-place.invariant.put (take_all c.loop-place.place-index found (omega (arith, c.loop-place-test.false)))))
    (All-append (IsPlaceIn size) old (map (behind begin) found) before (behind_in begin size fits found found_in))
