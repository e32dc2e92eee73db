-- A day whose messages were served while their file was read: what its feed gave, and how the file ended.
use Rattle.std.proofs.Common.{◌≡◌, ◌⊎◌, inl, inr, ℕ, zero, suc, ◌≤◌, ◌<◌, Bool, true, List, [], ◌∷◌, ◌++◌, drop, length, take, Result, Ok, Err, refl, sym, ap, ◌∙◌, subst, arith, append-nil, length-append, take-add}
use Rattle.std.specs.Prelude.{IfErr, IfOk, sum}
use Rattle.std.proofs.lemmas.List.{drop_all, length-map, take-append-drop}
use Rattle.std.proofs.lemmas.List.Sums.{sum_by-cons}
use Rattle.fin_frame.specs.Pieces.{at_place}
use mathlib.Core.Logic.{dite}
use native.Mathlib.Decide.{dec_lt}
use Rattle.corr_io.specs.declared.source.Source as sources
use Rattle.fin_frame.specs.File.{IsFileOf}
use Rattle.fin_frame.specs.File.IsFileOf.{start as file_start, more as file_more}
use Rattle.fin_frame.specs.Shown.{ShowWhole}
use Rattle.fin_frame.proofs.laws.Tracking.{whole-more}
use Rattle.corr_top.specs.declared.cutting.FileStop.{FileStop}
use Rattle.corr_top.specs.declared.cutting.FileStop.TheVariants as file
use Rattle.corr_top.specs.declared.stream.MessageFile.{MessageFile}
use Rattle.corr_top.specs.declared.stream.Stage.{Stage}
use Rattle.corr_top.specs.declared.stream.Stage.TheVariants as stage
use Rattle.corr_top.specs.inner.Batching.{messages_in}
use Rattle.corr_top.specs.inner.Fed.{Fed, IsOver, IsStreamFrom}
use Rattle.corr_top.specs.Passing.{AreGiven, HasMessages, HasRead, StopsAtMessages}
use Rattle.corr_top.specs.inner.Stream.{HasFirst, HasStopped, IsAtStage, IsEnded, StopsStream, batches_of, messages_so_far}
use Rattle.corr_top.specs.inner.Streamed.{EndsAt}
use Rattle.corr_top.proofs.StreamFiles.{shown_before, shown_front}
use Rattle.corr_top.proofs.StreamSteps.{going_shown}

-- ---- what was given

-- batches of messages are the first of these
pub given_messages : (sizes : List ℕ) (messages : List (List ℕ)) → messages_in (batches_of sizes messages) ≡ take (sum sizes) messages
given_messages [] messages = refl
given_messages (n ∷ sizes) messages =
    ap (λ (l : List (List ℕ)). take n messages ++ l) (given_messages sizes (drop n messages)) ∙ sym (take-add n (sum sizes) messages)
    ∙ ap (λ (k : ℕ). take k messages) (sym (sum_by-cons (λ (k : ℕ). k) n sizes))

take_whole : (n : ℕ) (messages : List (List ℕ)) → length messages ≤ n → take n messages ≡ messages
take_whole n messages enough = sym (append-nil (take n messages)) ∙ ap (λ (l : List (List ℕ)). take n messages ++ l) (sym (drop_all n messages enough)) ∙ take-append-drop n messages

-- the messages of a file but the last are shown to be whole
file_shown : {bytes gap : List ℕ} {all : List (List ℕ)} → IsFileOf bytes all gap → (front : List (List ℕ)) (m : List ℕ) (more : List (List ℕ)) → all ≡ front ++ m ∷ more → ShowWhole bytes front
file_shown (file_start is) front m more same = absurd (nothing_in front m more same)
  where
    nothing_in : (front : List (List ℕ)) (m : List ℕ) (more : List (List ℕ)) → [] ≡ front ++ m ∷ more → ⊥
    nothing_in [] m more e = absurd (cc (e))
    nothing_in (x ∷ front) m more e = absurd (cc (e))
file_shown (file_more before last gap messages is_file is_message gapped) front m more same =
    let shorter = without_last messages front last m more same in
    shown_front shorter.0 front (subst (λ (ms : List (List ℕ)). ShowWhole (before ++ last ++ gap) ms) shorter.1 (shown_before last gap is_file is_message))
  where
    without_last : (messages front : List (List ℕ)) (last m : List ℕ) (more : List (List ℕ)) → messages ++ last ∷ [] ≡ front ++ m ∷ more → (rest : List (List ℕ)) × (messages ≡ front ++ rest)
    without_last messages [] last m more e = (messages, refl)
    without_last [] (x ∷ front) last m more e = absurd (no_room front m more (cc (e)))
      where
        no_room : (front : List (List ℕ)) (m : List ℕ) (more : List (List ℕ)) → [] ≡ front ++ m ∷ more → ⊥
        no_room [] m more e = absurd (cc (e))
        no_room (x ∷ front) m more e = absurd (cc (e))
    without_last (y ∷ messages) (x ∷ front) last m more e =
        let first : y ≡ x = cc (e) in
        let rest : messages ++ last ∷ [] ≡ front ++ m ∷ more = cc (e) in
        let r = without_last messages front last m more rest in
        (r.0, λ i. first i ∷ r.1 i)

split_at : (n : ℕ) (messages : List (List ℕ)) → n < length messages → (m : List ℕ) × (more : List (List ℕ)) × (messages ≡ take n messages ++ m ∷ more)
split_at n [] less = absurd (omega (arith, less))
split_at zero (m ∷ messages) less = (m, messages, refl)
split_at (suc n) (x ∷ messages) less = let r = split_at n messages (omega (arith, less)) in (r.0, r.1, ap (λ (l : List (List ℕ)). x ∷ l) r.2)

-- where there is a list of what became of the messages, there are replies, and the feed has ended
pub over_if : {V M R E : Type 0} (served : Result V M) (replies : Result R E) (over : Bool) → IfOk served (λ _. IfErr replies (λ _. ⊥)) → IfOk replies (λ _. over ≡ true) → IfOk served (λ _. over ≡ true)
over_if (Ok v) (Ok r) over ok ended = ended
over_if (Ok v) (Err e) over ok ended = absurd ok
over_if (Err m) replies over ok ended = tt

module _ {S : Type 0} (source : sources.Ghosts S) (from : S) where
  -- how the file stops, by how its stream does
  pub stops_file : (to : S) (bytes : List ℕ) (stop : FileStop) → StopsStream (source.left from) (source.faults from) (source.left to) (source.faults to) bytes stop → StopsAtMessages source from to bytes stop
  stops_file to bytes (file.Fault then now) stops = record { then_is = stops.0; now_is = stops.1; rose = stops.2 }
  stops_file to bytes (file.TooLarge count messages) stops = (record { read = stops.0; kept = stops.1 }, stops.2)
  stops_file to bytes (file.Framing at) stops = (record { read = stops.0; kept = stops.1 }, stops.2)
  stops_file to bytes file.Memory stops = stops

  has_messages : (f : MessageFile S) → IsEnded source (source.left from) (source.faults from) f → HasMessages source from f.source f.text (messages_so_far f)
  has_messages f ended = record { took = record { read = ended.read; kept = ended.kept }; are = ended.are }

  -- these messages are a file that was read, or the first ones of bytes that were
  abbrev AreIn : S → List ℕ → List (List ℕ) → Type 0
  AreIn to bytes messages = HasMessages source from to bytes messages ⊎ (HasRead (source.left from) (source.left to) bytes × ShowWhole bytes messages)

  -- the messages that were found in a file that stopped, and how that is told of the same bytes
  stopped_behind : (to : S) (text : List ℕ) (messages : List (List ℕ)) (stop : FileStop) → StopsStream (source.left from) (source.faults from) (source.left to) (source.faults to) text stop
      → HasFirst (source.left from) (source.left to) text → ShowWhole text messages → (bytes : List ℕ) × AreIn to bytes messages × StopsAtMessages source from to bytes stop
  stopped_behind to text messages (file.Fault then now) stops first shown =
      (text ++ first.lost, inr (record { taken = first.taken; short = first.short }, whole-more first.lost shown), record { then_is = stops.0; now_is = stops.1; rose = stops.2 })
  stopped_behind to text messages (file.TooLarge count begun) stops first shown =
      (text, inr (record { taken = stops.0.taken; short = stops.0.bound }, shown), (record { read = stops.0; kept = stops.1 }, stops.2))
  stopped_behind to text messages (file.Framing at) stops first shown =
      (text, inr (record { taken = stops.0.taken; short = stops.0.bound }, shown), (record { read = stops.0; kept = stops.1 }, stops.2))
  stopped_behind to text messages file.Memory stops first shown =
      (text ++ first.lost, inr (record { taken = first.taken; short = first.short }, whole-more first.lost shown), stops)

  stopped_in : (f : MessageFile S) (stop : FileStop) → HasStopped source (source.left from) (source.faults from) f stop
      → (bytes : List ℕ) × AreIn f.source bytes (messages_so_far f) × StopsAtMessages source from f.source bytes stop
  stopped_in f stop stopped = elim stopped.shown [
    | inl whole ↦ (f.text, inl (record { took = record { read = whole.0; kept = whole.1 }; are = whole.2 }), stops_file f.source f.text stop stopped.stops)
    | inr shown ↦ stopped_behind f.source f.text (messages_so_far f) stop stopped.stops shown.0 shown.1
  ]

  -- the first of such messages, if they aren't all
  first_in : (to : S) (bytes : List ℕ) (messages : List (List ℕ)) (n : ℕ) → n < length messages → AreIn to bytes messages → HasRead (source.left from) (source.left to) bytes × ShowWhole bytes (take n messages)
  first_in to bytes messages n less (inl whole) =
      let parts = split_at n messages less in
      (record { taken = whole.took.read.taken; short = whole.took.read.bound }, file_shown whole.are.cut.1 (take n messages) parts.0 parts.1 parts.2)
  first_in to bytes messages n less (inr shown) =
      (shown.0, shown_front (drop n messages) (take n messages) (subst (λ (ms : List (List ℕ)). ShowWhole bytes ms) (sym (take-append-drop n messages)) shown.1))

  -- no more than a file may have
  first_few : (f : Fed S) → IsStreamFrom source (source.left from) (source.faults from) f → length (take (sum f.sizes) (messages_so_far f.file)) ≤ 50000
  first_few f stream =
      let messages = messages_so_far f.file in
      let parts = length-append (take (sum f.sizes) messages) (drop (sum f.sizes) messages) in
      let whole = ap length (take-append-drop (sum f.sizes) messages) in
      let all = length-map f.file.places.items (at_place f.file.text) in
      let few = stream.stream.few in
      omega (arith, parts, whole, all, few)

  -- the messages that a feed gave
  given_in : (f : Fed S) → IsStreamFrom source (source.left from) (source.faults from) f → (bytes : List ℕ) → AreIn f.file.source bytes (messages_so_far f.file)
      → AreGiven source from f.file.source bytes (take (sum f.sizes) (messages_so_far f.file))
  given_in f stream bytes found =
      let messages = messages_so_far f.file in
      record {
        few = first_few f stream;
        are = dite (dec_lt (sum f.sizes) (length messages))
            (λ less. inr (first_in f.file.source bytes messages (sum f.sizes) less found))
            (λ all. subst (AreIn f.file.source bytes) (sym (take_whole (sum f.sizes) messages (omega (arith, all)))) found);
      }

  -- what it gave, and how its file ended, where memory running out among the workers leaves no list of what became of the messages
  pub ends_at : {V M : Type 0} (f : Fed S) → IsStreamFrom source (source.left from) (source.faults from) f → (f.over ≡ true → IsOver f) → (served : Result V M) → IfOk served (λ _. f.over ≡ true)
      → (bytes : List ℕ) × AreGiven source from f.file.source bytes (take (sum f.sizes) (messages_so_far f.file)) × EndsAt source from f.file.source bytes (take (sum f.sizes) (messages_so_far f.file)) served f.file.stage
  ends_at f stream over served told = by_stage f.file.stage refl stream.stream.at
    where
      messages : List (List ℕ)
      messages = messages_so_far f.file

      given_of : (bytes : List ℕ) → AreIn f.file.source bytes messages → AreGiven source from f.file.source bytes (take (sum f.sizes) messages)
      given_of bytes found = given_in f stream bytes found

      unless_over : {A B : Type 0} (P : Type 0) (r : Result A B) → IfOk r (λ _. f.over ≡ true) → (f.over ≡ true → P) → P ⊎ IfOk r (λ _. ⊥)
      unless_over P (Ok v) told ended_so = inl (ended_so told)
      unless_over P (Err e) told ended_so = inr tt

      never : {A B : Type 0} (r : Result A B) → IfOk r (λ _. f.over ≡ true) → (f.over ≡ true → ⊥) → IfOk r (λ _. ⊥)
      never (Ok v) told not_over = not_over told
      never (Err e) told not_over = tt

      by_stage : (at : Stage) → f.file.stage ≡ at → IsAtStage source (source.left from) (source.faults from) f.file at
          → (bytes : List ℕ) × AreGiven source from f.file.source bytes (take (sum f.sizes) messages) × EndsAt source from f.file.source bytes (take (sum f.sizes) messages) served at
      by_stage stage.Whole is ended = (
        f.file.text,
        given_of f.file.text (inl (has_messages f.file ended)),
        (
          unless_over (HasMessages source from f.file.source f.file.text (take (sum f.sizes) messages)) served told
              (λ ended_so. elim (over ended_so) [
                | inl all ↦ subst (λ (ms : List (List ℕ)). HasMessages source from f.file.source f.file.text ms) (sym (take_whole (sum f.sizes) messages (let e = all.1 in omega (arith, e)))) (has_messages f.file ended)
                | inr stopped ↦ absurd (let e : stage.Whole ≡ stage.Stopped stopped.0 = sym is ∙ stopped.1 in cc (e))
              ]),
          ended.kept,
        ),
      )
      by_stage (stage.Stopped stop) is stopped =
          let found = stopped_in f.file stop stopped in
          (found.0, given_of found.0 found.1, found.2)
      by_stage stage.Going is going = (
        f.file.text,
        given_of f.file.text (inr (record { taken = going.read; short = let short = going.short in omega (arith, short) }, going_shown source (source.left from) (source.faults from) f.file going)),
        (
          never served told (λ ended_so. elim (over ended_so) [
            | inl all ↦ absurd (let e : stage.Going ≡ stage.Whole = sym is ∙ all.0 in cc (e))
            | inr stopped ↦ absurd (let e : stage.Going ≡ stage.Stopped stopped.0 = sym is ∙ stopped.1 in cc (e))
          ]),
          going.kept,
        ),
      )
