use Rattle.std.proofs.Common.{◌≡◌, ◌⊎◌, ◌+◌, ◌-◌, ◌≤◌, ◌++◌, ◌∷◌, [], true, false, length, take, drop, refl, ap, sym, ◌∙◌, subst, inl, arith, length-append, length-drop, drop-drop}
use Rattle.std.specs.List.{All}
use Rattle.std.proofs.lemmas.List.{append-nil, drop_all, length-take-le, take_rest}
use Rattle.std.proofs.lemmas.List.Elements.{All-nil}
use Rattle.fin_frame.specs.inner.Next.{AreFaulty, IsNext, IsUnfinished}
use Rattle.fin_frame.specs.Pieces.{at_places, HasAll, HasTakenFile, IsPlaceIn}
use Rattle.fin_frame.specs.Whole.{is_led}
use Rattle.fin_frame.specs.inner.Whole.{gap_goes_on}
use Rattle.fin_frame.specs.declared.next.Next.TheVariants.{Message}
use Rattle.fin_frame.specs.declared.place.Place.{Place}
use Rattle.fin_frame.proofs.PieceFile.{IsLedOn, faulty-there, led-on, led-so, none-all, places-more, taken-on, unfinished-all}
use Rattle.fin_frame.proofs.WholeFile.{message-some}
use Rattle.fin_frame.proofs.pieces.PieceCutter.cut_piece.Goals as goal

pub loop-at-init : goal.loop-at-init
loop-at-init c =
    let piece = c.args.piece.now in
    let gap = c.pass_gap-at.ensures in
    record {
      most = gap.most;
      few = omega (arith, ap length c.requires.empty);
      room = refl;
      fed = gap.fed;
      kept = refl;
      ends = gap.end;
      led = λ close. let so = gap.apart close in inl (subst (λ n. is_led (drop n piece) ≡ true) (sym so.1) (c.requires.led so.0));
      within = subst (λ l. All (λ place. IsPlaceIn (length piece) place) l) (sym c.requires.empty) (All-nil (λ place. IsPlaceIn (length piece) place));
      took = λ file messages t.
          subst (λ l. HasTakenFile c.pass_gap-at.new.self (file ++ take c.pass_gap-at.result piece) (messages ++ at_places piece l)) (sym c.requires.empty)
          (subst (λ l. HasTakenFile c.pass_gap-at.new.self (file ++ take c.pass_gap-at.result piece) l) (sym (append-nil messages)) (gap.took file messages t));
    }

pub push_reserved-requires : goal.push_reserved-requires
push_reserved-requires c = omega (arith, c.if-len-most.true, c.len.ensures, c.loop-at.invariant.room, c.requires.room)

pub pass_message-requires-clause-some : goal.pass_message-requires-clause-some
pass_message-requires-clause-some c =
    let m = c.in-Message.ensures in
    let size = length-take-le c.in-Message.len (take (length c.args.piece.now - c.loop-at.at) (drop c.loop-at.at c.args.piece.now)) m.0 in
    omega (arith, size, message-some m.1.0)

pub pass_message-requires-clause-few : goal.pass_message-requires-clause-few
pass_message-requires-clause-few c =
    let piece = c.args.piece.now in
    let at = c.loop-at.at in
    let size : length (take (length piece - at) (drop at piece)) ≡ length piece - at = ap length (take_rest piece at) ∙ length-drop at piece in
    omega (arith, size, c.in-Message.ensures.0, c.loop-at.invariant.most, c.loop-at.invariant.fed, c.requires.few)

pub pass_gap-at-requires-in-Message : goal.pass_gap-at-requires-in-Message
pass_gap-at-requires-in-Message c =
    let piece = c.args.piece.now in
    let at = c.loop-at.at in
    let end = c.loop-at.at + c.in-Message.len in
    let size : length (take (length piece - at) (drop at piece)) ≡ length piece - at = ap length (take_rest piece at) ∙ length-drop at piece in
    let left : length (take (length piece - end) (drop end piece)) ≡ length piece - end = ap length (take_rest piece end) ∙ length-drop end piece in
    record {
      few = omega (arith, size, left, c.in-Message.ensures.0, c.loop-at.invariant.most, c.loop-at.invariant.fed, c.pass_message.ensures.fed, c.requires.few);
    }

pub loop-at-smaller : goal.loop-at-smaller
loop-at-smaller c =
    let piece = c.args.piece.now in
    let at = c.loop-at.at in
    let m = c.in-Message.ensures in
    let some = message-some m.1.0 in
    let size = length-take-le c.in-Message.len (take (length piece - at) (drop at piece)) m.0 in
    omega (arith, size, some, c.loop-at-test.true)

pub loop-at-preserved : goal.loop-at-preserved
loop-at-preserved c =
    let i = c.loop-at.invariant in
    let piece = c.args.piece.now in
    let last = c.args.last in
    let at = c.loop-at.at in
    let len = c.in-Message.len in
    let end = at + len in
    let gap = c.pass_gap-at-in-Message.result in
    let to = end + gap in
    let now = c.pass_gap-at-in-Message.new.self in
    let places = c.loop-at.places.items in
    let w : IsNext last (drop at piece) (Message len) = subst (λ x. IsNext last x (Message len)) (take_rest piece at) c.in-Message.ensures in
    let rest : length (drop at piece) ≡ length piece - at = length-drop at piece in
    let size : length (take len (drop at piece)) ≡ len = length-take-le len (drop at piece) w.0 in
    let behind = take_rest piece end in
    let left : length (take (length piece - end) (drop end piece)) ≡ length piece - end = ap length behind ∙ length-drop end piece in
    let back : drop gap (take (length piece - end) (drop end piece)) ≡ drop to piece = ap (drop gap) behind ∙ drop-drop gap end piece in
    let ends : gap_goes_on now.marked (drop to piece) ≡ false =
    subst (λ x. gap_goes_on now.marked x ≡ false) back c.pass_gap-at-in-Message.ensures.end in
    let items = c.push_reserved.ensures.items in
    let place : Place = record { from = at; len = len } in
    let most : to ≤ length piece = omega (arith, rest, left, w.0, i.most, c.pass_gap-at-in-Message.ensures.most) in
    record {
      most = most;
      few = omega (arith, ap length items, length-append places (place ∷ []), c.len.ensures, c.if-len-most.true, i.few);
      room = omega (arith, c.push_reserved.ensures.capacity, i.room);
      fed = omega (arith, i.fed, c.pass_message.ensures.fed, c.pass_gap-at-in-Message.ensures.fed);
      kept = i.kept;
      ends = ends;
      led = λ close.
          let so = c.pass_gap-at-in-Message.ensures.apart close in
          let there : drop to piece ≡ drop len (drop at piece) = ap (λ n. drop n piece) (omega (arith, so.1)) ∙ sym (drop-drop len at piece) in
          let stops : gap_goes_on false (drop len (drop at piece)) ≡ false =
          subst (λ x. gap_goes_on false x ≡ false) there
          (subst (λ m. gap_goes_on m (drop to piece) ≡ false) (so.2 ∙ c.pass_message.ensures.marked) ends) in
          subst (λ x. (is_led x ≡ true) ⊎ ((last ≡ true) × (x ≡ []))) (sym there) (led-on last (drop len (drop at piece)) w.2 stops);
      within = subst (λ l. All (λ p. IsPlaceIn (length piece) p) l) (sym items)
          (places-more (length piece) places place i.within (omega (arith, rest, w.0, i.most)));
      took = λ file messages t.
          subst (λ l. HasTakenFile now (file ++ take to piece) (messages ++ at_places piece l)) (sym items)
          (taken-on now file piece messages places at len gap place refl refl
          (subst
          (λ x. HasTakenFile now (((file ++ take at piece) ++ take len (drop at piece)) ++ take gap x) ((messages ++ at_places piece places) ++ take len (drop at piece) ∷ []))
          behind
          (c.pass_gap-at-in-Message.ensures.took ((file ++ take at piece) ++ take len (drop at piece))
          ((messages ++ at_places piece places) ++ take len (drop at piece) ∷ [])
          (c.pass_message.ensures.took (file ++ take at piece) (take len (drop at piece)) (messages ++ at_places piece places) (i.took file messages t) w.1 size))));
    }

pub returns-in-Open-clause-all : goal.returns-in-Open-clause-all
returns-in-Open-clause-all c = λ file messages t few.
    let i = c.loop-at.invariant in
    let piece = c.args.piece.now in
    let at = c.loop-at.at in
    let w = c.in-Open.ensures in
    subst (λ l. HasAll l file messages piece c.loop-at.places.items at) (sym w.0)
    (unfinished-all c.loop-at.cutter file piece at messages c.loop-at.places.items (i.took file messages t)
    (subst (λ l. IsLedOn l c.loop-at.cutter.apart (drop at piece)) w.0 i.led)
    (subst (λ x. IsUnfinished x) (take_rest piece at) w.1))

pub returns-in-Open-clause-led : goal.returns-in-Open-clause-led
returns-in-Open-clause-led c = λ more close.
    led-so c.args.last c.loop-at.cutter.apart (drop c.loop-at.at c.args.piece.now) c.loop-at.invariant.led more close

pub returns-in-Faulty-clause-none : goal.returns-in-Faulty-clause-none
returns-in-Faulty-clause-none c = λ none file messages t.
    let i = c.loop-at.invariant in
    let piece = c.args.piece.now in
    let at = c.loop-at.at in
    faulty-there c.args.last c.loop-at.cutter file piece at messages c.loop-at.places.items (i.took file messages t) i.ends i.led c.loop-at-test.true
    (subst (λ x. AreFaulty c.args.last x) (take_rest piece at) c.in-Faulty.ensures)

pub returns-after-loop-at-clause-all : goal.returns-after-loop-at-clause-all
returns-after-loop-at-clause-all c = λ file messages t few.
    let i = c.loop-at.invariant in
    let piece = c.args.piece.now in
    let at = c.loop-at.at in
    none-all c.args.last c.loop-at.cutter file piece at messages c.loop-at.places.items (i.took file messages t) i.led
    (drop_all at piece (omega (arith, c.loop-at-test.false)))

pub returns-else-len-most-clause-led : goal.returns-else-len-most-clause-led
returns-else-len-most-clause-led c = λ more close.
    led-so c.args.last c.loop-at.cutter.apart (drop c.loop-at.at c.args.piece.now) c.loop-at.invariant.led more close

pub returns-after-loop-at-clause-led : goal.returns-after-loop-at-clause-led
returns-after-loop-at-clause-led c = λ more close.
    led-so c.args.last c.loop-at.cutter.apart (drop c.loop-at.at c.args.piece.now) c.loop-at.invariant.led more close
