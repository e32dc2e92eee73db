use Rattle.std.proofs.Common.{◌≡◌, ◌∙◌, ◌<◌, ◌++◌, ℕ, List, false, true, ap, arith, drop, length, refl, subst, take}
use Rattle.std.proofs.lemmas.List.{length-map}
use Rattle.fin_frame.specs.Pieces.{AreAll, HasTakenFile, IsFaulty, at_place, at_places}
use Rattle.fin_frame.specs.Whole.{is_led}
use Rattle.corr_top.specs.inner.Stream.{messages_so_far}
use Rattle.corr_top.proofs.CutPieces.{all_whole, piece_faulty, too_many_found}
use Rattle.corr_top.proofs.StreamSteps.{found_now, found_room, going_of}
use Rattle.corr_top.proofs.stream.MessageFile.cut.Goals as goal

pub refuse-requires-clause-none : goal.refuse-requires-clause-none
refuse-requires-clause-none g c = λ more messages ends is.
    let f = c.args.self.now in
    let stream = c.requires.stream in
    let has = (going_of g.S.Source stream.0 stream.1 f stream.2 c.requires.going).cut in
    let faulty = subst (λ (piece : List ℕ). IsFaulty c.args.ended (take f.taken f.text ++ piece)) (c.after-rest.ensures ∙ ap (drop f.taken) c.bytes.ensures) (c.in-None.ensures.none refl (take f.taken f.text) (messages_so_far f) has) in
    piece_faulty c.args.ended f.text more f.taken messages faulty ends is

pub returns-in-None-clause-stream : goal.returns-in-None-clause-stream
returns-in-None-clause-stream g c = λ left faults is.
    let f = c.args.self.now in
    let room = is.room in let cleared = c.clear.ensures.capacity in let kept = c.cut_piece.ensures.room in
    c.refuse.ensures.stream left faults (found_now g.S.Source left faults _ (found_room g.S.Source left faults f c.cut_piece.new.places (omega (arith, room, cleared, kept)) is) c.requires.going)

pub returns-then-len-eq-MOST_FOUND-clause-stream : goal.returns-then-len-eq-MOST_FOUND-clause-stream
returns-then-len-eq-MOST_FOUND-clause-stream g c = λ left faults is.
    let room = is.room in let cleared = c.clear.ensures.capacity in let kept = c.cut_piece.ensures.room in
    c.stop.ensures.stream left faults (found_room g.S.Source left faults c.args.self.now c.cut_piece.new.places (omega (arith, room, cleared, kept)) is)

pub refuse-requires-then-len-clause-none : goal.refuse-requires-then-len-clause-none
refuse-requires-then-len-clause-none g c = λ more messages ends is.
    let f = c.args.self.now in
    let stream = c.requires.stream in
    let has = (going_of g.S.Source stream.0 stream.1 f stream.2 c.requires.going).cut in
    let n = c.in-Some.count in
    let cutter = c.cut_piece.new.self in
    let found = c.cut_piece.new.places.items in
    let piece_is = c.after-rest.ensures ∙ ap (drop f.taken) c.bytes.ensures in
    let took = subst (λ (piece : List ℕ). HasTakenFile cutter (take f.taken f.text ++ take n piece) (messages_so_far f ++ at_places piece found)) piece_is (c.in-Some.ensures.took (take f.taken f.text) (messages_so_far f) has) in
    let less : length found < 32768 = let few = c.in-Some.ensures.few.2 in let not = c.if-len-eq-MOST_FOUND.false in let len = c.len.ensures in omega (arith, few, not, len) in
    let all = c.in-Some.ensures.all (take f.taken f.text) (messages_so_far f) has less in
    let whole = subst (λ (piece : List ℕ). AreAll c.args.ended (take f.taken f.text ++ piece) (messages_so_far f ++ at_places piece found)) piece_is all.all in
    let led = subst (λ (piece : List ℕ). c.args.ended ≡ false → cutter.apart ≡ false → is_led (drop n piece) ≡ true) piece_is c.in-Some.ensures.led in
    let many = c.if-len.true in let len2 = c.len-2.ensures in let len3 = c.len-3.ensures in let each = length-map f.places.items (at_place f.text) in
    too_many_found c.args.ended f.text more f.taken n cutter (messages_so_far f) found messages took led whole ends (omega (arith, many, len2, len3, each)) is

pub returns-then-len-clause-stream : goal.returns-then-len-clause-stream
returns-then-len-clause-stream g c = λ left faults is.
    let f = c.args.self.now in
    let room = is.room in let cleared = c.clear.ensures.capacity in let kept = c.cut_piece.ensures.room in
    c.refuse-then-len.ensures.stream left faults (found_now g.S.Source left faults _ (found_room g.S.Source left faults f c.cut_piece.new.places (omega (arith, room, cleared, kept)) is) c.requires.going)

pub keep-requires-clause-took : goal.keep-requires-clause-took
keep-requires-clause-took g c =
    let f = c.args.self.now in
    let stream = c.requires.stream in
    let has = (going_of g.S.Source stream.0 stream.1 f stream.2 c.requires.going).cut in
    let found = c.cut_piece.new.places.items in
    subst (λ (piece : List ℕ). HasTakenFile c.cut_piece.new.self (take f.taken f.text ++ take c.in-Some.count piece) (messages_so_far f ++ at_places piece found))
    (c.after-rest.ensures ∙ ap (drop f.taken) c.bytes.ensures) (c.in-Some.ensures.took (take f.taken f.text) (messages_so_far f) has)

pub keep-requires-clause-whole : goal.keep-requires-clause-whole
keep-requires-clause-whole g c = λ end.
    let f = c.args.self.now in
    let stream = c.requires.stream in
    let has = (going_of g.S.Source stream.0 stream.1 f stream.2 c.requires.going).cut in
    let found = c.cut_piece.new.places.items in
    let less : length found < 32768 = let few = c.in-Some.ensures.few.2 in let not = c.if-len-eq-MOST_FOUND.false in let len = c.len.ensures in omega (arith, few, not, len) in
    let all = c.in-Some.ensures.all (take f.taken f.text) (messages_so_far f) has less in
    let whole = subst (λ (piece : List ℕ). AreAll c.args.ended (take f.taken f.text ++ piece) (messages_so_far f ++ at_places piece found)) (c.after-rest.ensures ∙ ap (drop f.taken) c.bytes.ensures) all.all in
    all_whole c.args.ended (take f.taken f.text ++ drop f.taken f.text) (messages_so_far f ++ at_places (drop f.taken f.text) found) whole end

pub returns-clause-stream : goal.returns-clause-stream
returns-clause-stream g c = λ left faults is.
    let room = is.room in let cleared = c.clear.ensures.capacity in let kept = c.cut_piece.ensures.room in
    c.keep.ensures.stream left faults (found_room g.S.Source left faults c.args.self.now c.cut_piece.new.places (omega (arith, room, cleared, kept)) is)
