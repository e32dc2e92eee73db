-- A message file that is read in pieces, from one step to the next.
use Rattle.std.proofs.Common.{◌≡◌, ℕ, ◌+◌, ◌-◌, ◌≤◌, ◌<◌, All, Bool, true, false, List, [], ◌++◌, append-nil, append_assoc, drop, length, length-append, take, map, Option, inl, inr, refl, sym, ap, ◌∙◌, subst, arith, vec_capacity}
use Rattle.std.specs.Io.KnownBytes.{Consumes, IsAtEnd}
use Rattle.std.proofs.KnownBytes.{Consumes-trans}
use Rattle.std.proofs.lemmas.List.{length-map, take-append-drop}
use Rattle.std.proofs.lemmas.List.Elements.{All-map, All-weaker}
use Rattle.std.specs.Global.{Vec}
use Rattle.corr_io.specs.declared.source.Source as sources
use Rattle.fin_frame.specs.File.{IsCutInto}
use Rattle.fin_frame.specs.Pieces.{HasTakenFile, IsPlaceIn, at_place, at_places}
use Rattle.fin_frame.specs.Shown.{ShowWhole}
use Rattle.fin_frame.specs.Whole.{is_led}
use Rattle.fin_frame.specs.declared.pieces.PieceCutter.{PieceCutter}
use Rattle.fin_frame.specs.declared.place.Place.{Place}
use Rattle.fin_frame.proofs.laws.Tracking.{whole-more}
use Rattle.corr_top.specs.declared.cutting.FileStop.{FileStop}
use Rattle.corr_top.specs.declared.cutting.FileStop.TheVariants as file
use Rattle.corr_top.specs.declared.reading.ReadStop.{ReadStop}
use Rattle.corr_top.specs.declared.reading.ReadStop.TheVariants as reading
use Rattle.corr_top.specs.declared.stream.MessageFile.{MessageFile}
use Rattle.corr_top.specs.declared.stream.Stage.{Stage}
use Rattle.corr_top.specs.declared.stream.Stage.TheVariants as stage
use Rattle.corr_top.specs.MessageFile.{IsMessageFile, StopsCutting, most_message_bytes}
use Rattle.corr_top.specs.Reading.{IsRead}
use Rattle.corr_top.specs.inner.Reading.{AddsRead, AddsSome, IsStopped}
use Rattle.corr_top.specs.inner.Stops.{file_stop_of_read}
use Rattle.corr_top.specs.inner.Stream.{AreShown, HasFirst, HasFound, IsAtStage, IsGoing, IsReadOn, IsSameCut, IsStreamOf, StopsStream, messages_so_far, most_found, stage_at, stop_at}
use Rattle.corr_top.proofs.CutPieces.{cut_on, cut_whole_now, led_grown, led_on, taken_grown}
use Rattle.corr_top.specs.inner.Batching.{behind}
use Rattle.corr_top.proofs.OwnedBatches.{grown_places}
use Rattle.corr_top.proofs.StreamFiles.{taken_shown}

-- ---- reading on

-- what was read stands behind what had been read
pub read_behind : (left before after : Option (List ℕ)) (old new : List ℕ) → Consumes left before old → AddsRead before after old new → Consumes left after new
read_behind left before after old new so_far adds = subst (Consumes left after) (sym adds.text) (Consumes-trans left before after old adds.more so_far adds.taken)

-- so do the first bytes of what was read
pub read_first : (left before after : Option (List ℕ)) (until : ℕ) (old new : List ℕ) → Consumes left before old → AddsSome before after until old new → length old ≤ until → until ≤ most_message_bytes + 1 → HasFirst left after new
read_first left before after until old new so_far adds fits most =
    let all : new ++ adds.lost ≡ old ++ (adds.more ++ adds.lost) = ap (λ (l : List ℕ). l ++ adds.lost) adds.text ∙ append_assoc old adds.more adds.lost in
    let short = adds.short fits in
    record {
      lost = adds.lost;
      taken = subst (Consumes left after) (sym all) (Consumes-trans left before after old (adds.more ++ adds.lost) so_far adds.taken);
      short = omega (arith, short, most);
    }

-- and all that was read, where none is lost
pub first_whole : (left after : Option (List ℕ)) (text : List ℕ) → Consumes left after text → length text ≤ most_message_bytes + 1 → HasFirst left after text
first_whole left after text taken short = record {
  lost = [];
  taken = subst (Consumes left after) (sym (append-nil text)) taken;
  short = let long = length-append text [] in omega (arith, long, short);
}

-- it was read to its end, or to a byte past the limit
pub read_to : (limit : ℕ) (left now : Option (List ℕ)) (text : List ℕ) (ended : Bool) → Consumes left now text → length text ≤ limit + 1 → (ended ≡ true → IsAtEnd now) → (ended ≡ false → limit + 1 ≤ length text) → IsRead limit left now text
read_to limit left now text true taken bound end full = record { taken = taken; bound = bound; ended = λ _. end refl }
read_to limit left now text false taken bound end full = record { taken = taken; bound = bound; ended = λ short. absurd (let long = full refl in omega (arith, long, short)) }

-- how reading stops
pub stops_at_read : {S : Type 0} (faults : S → ℕ) (left : Option (List ℕ)) (old new : S) (now : Option (List ℕ)) (text : List ℕ) (stop : ReadStop) → IsStopped faults old new stop → StopsStream left (faults old) now (faults new) text (file_stop_of_read stop)
stops_at_read faults left old new now text (reading.Fault before after) stops = (stops.then_is, stops.now_is, stops.rose)
stops_at_read faults left old new now text reading.Memory stops = stops

-- how a file stops that was read
pub stops_at_cut : (left now : Option (List ℕ)) (faults count : ℕ) (text : List ℕ) (stop : FileStop) → IsRead most_message_bytes left now text → count ≡ faults → StopsCutting text stop → StopsStream left faults now count text stop
stops_at_cut left now faults count text (file.Fault before after) read kept stops = absurd stops
stops_at_cut left now faults count text (file.TooLarge bytes messages) read kept stops = (read, kept, stops)
stops_at_cut left now faults count text (file.Framing at) read kept stops = (read, kept, stops)
stops_at_cut left now faults count text file.Memory read kept stops = kept

-- ---- places

all_in_more : (text more : List ℕ) (places : List Place) → All (IsPlaceIn (length text)) places → All (IsPlaceIn (length (text ++ more))) places
all_in_more text more places all =
    let grown = length-append text more in
    All-weaker (IsPlaceIn (length text)) (IsPlaceIn (length (text ++ more))) (λ p within. omega (arith, grown, within)) places all

pub behind_in : (begin size : ℕ) → begin ≤ size → (found : List Place) → All (IsPlaceIn (size - begin)) found → All (IsPlaceIn size) (map (behind begin) found)
behind_in begin size fits found all =
    All-map (IsPlaceIn size) (behind begin) found (All-weaker (IsPlaceIn (size - begin)) (λ (p : Place). IsPlaceIn size (behind begin p)) (λ p within. omega (arith, fits, within)) found all)

-- ---- more was read, and nothing cut

module _ {S : Type 0} (f g : MessageFile S) (more : List ℕ) (same : IsSameCut f g) (text : g.text ≡ f.text ++ more) where
  pub places_same : All (IsPlaceIn (length f.text)) f.places.items → All (IsPlaceIn (length g.text)) g.places.items
  places_same all = subst (λ (x : List Place × List ℕ). All (IsPlaceIn (length x.1)) x.0) (λ i. ((sym same.places i).items, sym text i)) (all_in_more f.text more f.places.items all)

  pub messages_same : All (IsPlaceIn (length f.text)) f.places.items → messages_so_far g ≡ messages_so_far f
  messages_same all = (λ i. at_places (text i) (same.places i).items) ∙ grown_places f.text more f.places.items all

  shown_same : All (IsPlaceIn (length f.text)) f.places.items → ShowWhole f.text (messages_so_far f) → ShowWhole g.text (messages_so_far g)
  shown_same all shown = subst (λ (x : List ℕ × List (List ℕ)). ShowWhole x.0 x.1) (λ i. (sym text i, sym (messages_same all) i)) (whole-more more shown)

  few_same : length f.places.items ≤ 50000 → length g.places.items ≤ 50000
  few_same few = let e = ap (λ (v : _). length v.items) same.places in omega (arith, e, few)

-- ---- stages

module _ {S : Type 0} (source : sources.Ghosts S) (left : Option (List ℕ)) (faults : ℕ) where
  pub going_of : (f : MessageFile S) → IsStreamOf source left faults f → f.stage ≡ stage.Going → IsGoing source left faults f
  going_of f is now = subst (λ (s : Stage). IsAtStage source left faults f s) now is.at

  -- while it is read, what was found is whole
  pub going_shown : (f : MessageFile S) → IsGoing source left faults f → ShowWhole f.text (messages_so_far f)
  going_shown f going =
      subst (λ (b : List ℕ). ShowWhole b (messages_so_far f)) (take-append-drop f.taken f.text)
      (taken_shown f.cutter (take f.taken f.text) (drop f.taken f.text) (messages_so_far f) going.cut going.led)

  -- at each stage the messages that were found stand whole
  pub shown_at : (f : MessageFile S) (at : Stage) → IsAtStage source left faults f at → AreShown left faults (source.left f.source) (source.faults f.source) f.text (messages_so_far f)
  shown_at f stage.Going going = inr (first_whole left (source.left f.source) f.text going.read (let short = going.short in omega (arith, short)), going_shown f going)
  shown_at f stage.Whole ended = inl (ended.read, ended.kept, ended.are)
  shown_at f (stage.Stopped stop) stopped = stopped.shown

  -- what memory running out makes of a stage
  stops_by : (f : MessageFile S) (at : Stage) → IsAtStage source left faults f at → StopsStream left faults (source.left f.source) (source.faults f.source) f.text (stop_at at)
  stops_by f stage.Going going = going.kept
  stops_by f stage.Whole ended = ended.kept
  stops_by f (stage.Stopped stop) stopped = stopped.stops

  pub stopped_now : (f : MessageFile S) → IsStreamOf source left faults f → IsStreamOf source left faults (record f { stage = stage.Stopped (stop_at f.stage) })
  stopped_now f is = record {
    at = record { stops = stops_by f f.stage is.at; shown = shown_at f f.stage is.at };
    few = is.few;
    places = is.places;
    chunk = is.chunk;
    room = is.room;
  }

  -- ---- more was read, and nothing cut

  module _ (f g : MessageFile S) (more : List ℕ) (same : IsSameCut f g) (text : g.text ≡ f.text ++ more) where
    pub found_more : HasFound source left faults f → IsReadOn source left faults g → HasFound source left faults g
    found_more has on = record {
      read = on.read;
      kept = on.kept;
      shown = shown_same f g more same text has.places has.shown;
      few = few_same f g more same text has.few;
      places = places_same f g more same text has.places;
      chunk = same.chunk ∙ has.chunk;
      room = let r = same.room in let e = has.room in omega (arith, r, e);
    }

    -- it stopped
    pub stopped_with : (stop : FileStop) → HasFound source left faults f → StopsStream left faults (source.left g.source) (source.faults g.source) g.text stop → HasFirst left (source.left g.source) g.text
        → IsStreamOf source left faults (record g { stage = stage.Stopped stop })
    stopped_with stop has stops first = record {
      at = record { stops = stops; shown = inr (first, shown_same f g more same text has.places has.shown) };
      few = few_same f g more same text has.few;
      places = places_same f g more same text has.places;
      chunk = same.chunk ∙ has.chunk;
      room = let r = same.room in let e = has.room in omega (arith, r, e);
    }

    -- it is read on
    pub stream_more : IsStreamOf source left faults f → f.stage ≡ stage.Going → g.stage ≡ stage.Going → IsReadOn source left faults g → length g.text ≤ most_message_bytes → IsStreamOf source left faults g
    stream_more is was now on short =
        let going = going_of f is was in
        let long = ap length text in
        let grown = length-append f.text more in
        record {
          at = subst (λ (s : Stage). IsAtStage source left faults g s) (sym now) (record {
            read = on.read;
            kept = on.kept;
            short = short;
            within = let t = same.taken in let w = going.within in omega (arith, t, w, long, grown);
            cut = subst (λ (x : PieceCutter × (ℕ × (List Place × List ℕ))). HasTakenFile x.0 (take x.1.0 x.1.1.1) (at_places x.1.1.1 x.1.1.0)) (λ i. (sym same.cutter i, (sym same.taken i, ((sym same.places i).items, sym text i))))
                (taken_grown f.cutter f.text more f.taken f.places.items going.within is.places going.cut);
            led = subst (λ (x : PieceCutter × (ℕ × List ℕ)). x.0.apart ≡ false → is_led (drop x.1.0 x.1.1) ≡ true) (λ i. (sym same.cutter i, (sym same.taken i, sym text i)))
                (λ apart. led_grown f.text more f.taken going.within (going.led apart));
          });
          few = few_same f g more same text is.few;
          places = places_same f g more same text is.places;
          chunk = same.chunk ∙ is.chunk;
          room = let r = same.room in let e = is.room in omega (arith, r, e);
        }

  -- what is found in the next piece has other places
  found_at : (f : MessageFile S) (found : Vec Place) (at : Stage) → IsAtStage source left faults f at → IsAtStage source left faults (record f { found = found }) at
  found_at f found stage.Going going = record { read = going.read; kept = going.kept; short = going.short; within = going.within; cut = going.cut; led = going.led }
  found_at f found stage.Whole ended = record { read = ended.read; kept = ended.kept; are = ended.are }
  found_at f found (stage.Stopped stop) stopped = record { stops = stopped.stops; shown = stopped.shown }

  pub found_room : (f : MessageFile S) (found : Vec Place) → most_found ≤ vec_capacity found → IsStreamOf source left faults f → IsStreamOf source left faults (record f { found = found })
  found_room f found room is = record {
    at = found_at f found f.stage is.at;
    few = is.few;
    places = is.places;
    chunk = is.chunk;
    room = room;
  }

  -- the places stand elsewhere in memory
  placed_at : (f : MessageFile S) (places : Vec Place) → places.items ≡ f.places.items → (at : Stage) → IsAtStage source left faults f at → IsAtStage source left faults (record f { places = places }) at
  placed_at f places same stage.Going going = record {
    read = going.read;
    kept = going.kept;
    short = going.short;
    within = going.within;
    cut = subst (λ (ps : List Place). HasTakenFile f.cutter (take f.taken f.text) (at_places f.text ps)) (sym same) going.cut;
    led = going.led;
  }
  placed_at f places same stage.Whole ended = record {
    read = ended.read;
    kept = ended.kept;
    are = subst (λ (ps : List Place). IsMessageFile f.text (at_places f.text ps)) (sym same) ended.are;
  }
  placed_at f places same (stage.Stopped stop) stopped = record {
    stops = stopped.stops;
    shown = subst (λ (ps : List Place). AreShown left faults (source.left f.source) (source.faults f.source) f.text (at_places f.text ps)) (sym same) stopped.shown;
  }

  pub place_room : (f : MessageFile S) (places : Vec Place) → places.items ≡ f.places.items → IsStreamOf source left faults f → IsStreamOf source left faults (record f { places = places })
  place_room f places same is = record {
    at = placed_at f places same f.stage is.at;
    few = subst (λ (ps : List Place). length ps ≤ 50000) (sym same) is.few;
    places = subst (λ (ps : List Place). All (IsPlaceIn (length f.text)) ps) (sym same) is.places;
    chunk = is.chunk;
    room = is.room;
  }

  pub found_now : (f : MessageFile S) → IsStreamOf source left faults f → f.stage ≡ stage.Going → HasFound source left faults f
  found_now f is now =
      let going = going_of f is now in
      record {
        read = going.read;
        kept = going.kept;
        shown = going_shown f going;
        few = is.few;
        places = is.places;
        chunk = is.chunk;
        room = is.room;
      }

  -- ---- what was found is kept

  module _ (f : MessageFile S) (cutter : PieceCutter) (count : ℕ) (places : Vec Place) (each : at_places f.text places.items ≡ messages_so_far f ++ at_places (drop f.taken f.text) f.found.items) where
    kept_at : (ended : Bool) → IsGoing source left faults f → f.taken + count ≤ length f.text → length places.items ≤ 50000
        → HasTakenFile cutter (take f.taken f.text ++ take count (drop f.taken f.text)) (messages_so_far f ++ at_places (drop f.taken f.text) f.found.items)
        → (ended ≡ false → cutter.apart ≡ false → is_led (drop count (drop f.taken f.text)) ≡ true)
        → (ended ≡ true → IsCutInto (take f.taken f.text ++ drop f.taken f.text) (messages_so_far f ++ at_places (drop f.taken f.text) f.found.items))
        → (ended ≡ true → IsAtEnd (source.left f.source))
        → IsAtStage source left faults (record f { taken = f.taken + count; cutter = cutter; places = places; stage = stage_at ended }) (stage_at ended)
    kept_at false going within few took led whole end = record {
      read = going.read;
      kept = going.kept;
      short = going.short;
      within = within;
      cut = cut_on f.text f.taken (messages_so_far f) f.found.items places.items each cutter count took;
      led = λ apart. led_on f.text f.taken (messages_so_far f) f.found.items places.items each count (led refl apart);
    }
    kept_at true going within few took led whole end = record {
      read = record { taken = going.read; bound = let short = going.short in omega (arith, short); ended = λ _. end refl };
      kept = going.kept;
      are = cut_whole_now f.text f.taken (messages_so_far f) f.found.items places.items each (whole refl) going.short few (length-map places.items (at_place f.text));
    }

    pub kept_stream : (ended : Bool) → IsStreamOf source left faults f → f.stage ≡ stage.Going → f.taken + count ≤ length f.text → length places.items ≤ 50000 → All (IsPlaceIn (length f.text)) places.items
        → HasTakenFile cutter (take f.taken f.text ++ take count (drop f.taken f.text)) (messages_so_far f ++ at_places (drop f.taken f.text) f.found.items)
        → (ended ≡ false → cutter.apart ≡ false → is_led (drop count (drop f.taken f.text)) ≡ true)
        → (ended ≡ true → IsCutInto (take f.taken f.text ++ drop f.taken f.text) (messages_so_far f ++ at_places (drop f.taken f.text) f.found.items))
        → (ended ≡ true → IsAtEnd (source.left f.source))
        → IsStreamOf source left faults (record f { taken = f.taken + count; cutter = cutter; places = places; stage = stage_at ended })
    kept_stream ended is now within few all took led whole end = record {
      at = kept_at ended (going_of f is now) within few took led whole end;
      few = few;
      places = all;
      chunk = is.chunk;
      room = is.room;
    }

-- a file that goes on isn't one that stopped
pub going_only : {P : Type 0} (s : Stage) → s ≡ stage.Going → ((stop : FileStop) × (s ≡ stage.Stopped stop)) → P
going_only s going stopped = absurd (let e : stage.Going ≡ stage.Stopped stopped.0 = sym going ∙ stopped.1 in cc)

-- nor is it at its end
pub going_at : (ended : Bool) → stage_at ended ≡ stage.Going → ended ≡ false
going_at true is = absurd (let e : stage.Whole ≡ stage.Going = is in cc)
going_at false is = refl

-- how many bytes can still be read, and one more
abbrev pub left_to_read : Stage → List ℕ → ℕ
left_to_read stage.Going text = 67108865 - length text
left_to_read stage.Whole text = 0
left_to_read (stage.Stopped stop) text = 0

-- a step reads some, or is the last
pub fewer_left : (before after : Stage) (old new : List ℕ) → before ≡ stage.Going → length old ≤ 67108864 → (after ≡ stage.Going → length old < length new) → left_to_read after new < left_to_read before old
fewer_left before after old new going short on = subst (λ (s : Stage). left_to_read after new < left_to_read s old) (sym going) (by_stage after on)
  where
    by_stage : (s : Stage) → (s ≡ stage.Going → length old < length new) → left_to_read s new < 67108865 - length old
    by_stage stage.Going on = let more = on refl in let left : left_to_read stage.Going new ≡ 67108865 - length new = refl in omega (arith, short, more, left)
    by_stage stage.Whole on = let left : left_to_read stage.Whole new ≡ 0 = refl in omega (arith, short, left)
    by_stage (stage.Stopped stop) on = let left : left_to_read (stage.Stopped stop) new ≡ 0 = refl in omega (arith, short, left)
