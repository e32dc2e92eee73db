-- A day that was served: its texts and what they send, or why there are none.
use Rattle.std.proofs.Common.{◌≡◌, ◌+◌, ◌<◌, ◌≤◌, ◌⊎◌, inl, inr, ℕ, zero, suc, All, List, [], ◌∷◌, ◌++◌, take, Ok, Err, Result, Some, refl, ap, arith, sym, ◌∙◌, subst, length}
use Rattle.std.specs.Prelude.{IfErr, IfOk, IsSome, slice_get}
use Rattle.std.proofs.lemmas.Option.{none-some, same_Some}
use Rattle.corr_disk.specs.declared.disk.Disk as disks
use Rattle.corr_io.specs.declared.source.Source as sources
use Rattle.corr_text.specs.Faults.{Rose, counted}
use Rattle.corr_books.specs.Closing.{LeavesClosed}
use Rattle.corr_books.specs.Opening.{Opening, Parts, opening_with, past_of}
use Rattle.day_model.specs.declared.entry.Entry.{Entry}
use Rattle.day_model.specs.declared.pay.Pay.{Pay}
use Rattle.day_model.specs.declared.reply.Reply.{Reply}
use Rattle.day_model.specs.Chart.{Chart, IsChart}
use Rattle.day_model.specs.Next.{entered_at}
use Rattle.front_word.proofs.laws.Prefixes.{get_below}
use Rattle.jrn_codec.specs.Record.{IsEntry}
use Rattle.ssi_versions.specs.InstructionList.{AreInstructions}
use Rattle.corr_report.specs.Report.{NamesPlace}
use Rattle.corr_top.specs.declared.answers.BookStop.{BookStop}
use Rattle.corr_top.specs.declared.answers.BookStop.TheVariants as booking
use Rattle.corr_top.specs.declared.desk.Halt.TheVariants as halt
use Rattle.corr_top.specs.declared.desk.Served.{Served}
use Rattle.corr_top.specs.declared.desk.Served.TheVariants as served
use Rattle.corr_top.specs.declared.directory.Directory.{Directory}
use Rattle.corr_top.specs.declared.message.NoPay.{NoPay}
use Rattle.corr_top.specs.declared.serving.ServedDay.{ServedDay}
use Rattle.corr_top.specs.declared.status.Status.{Status}
use Rattle.corr_top.specs.declared.status.Status.TheVariants as status
use Rattle.corr_top.specs.declared.writing.Texts.{Texts}
use Rattle.corr_top.specs.Booking.{EachTried, EntersInOrder, HadNoRoom, LacksRoomThen}
use Rattle.corr_top.specs.inner.Collecting.{IsCalm, StopsAsServed}
use Rattle.corr_top.specs.inner.Days.{GivesDay, GivesServed, GivesTexts, StopCause}
use Rattle.corr_top.specs.Message.{pays_in, readings_of}
use Rattle.corr_top.specs.inner.Origin.{SendsAccepted}
use Rattle.corr_top.specs.Out.{sent_from}
use Rattle.corr_top.specs.Passing.{AreGiven, HasMessages, StopsAtMessages}
use Rattle.corr_top.specs.inner.Serving.{FeedServed, AreServedInOrder, AreTold, are_replies, HasPayShape, HasServed, IsFirstFailed, IsFirstFull, IsTold, IsTried, TellsHalt}
use Rattle.corr_top.specs.Stops.{status_of_file}
use Rattle.corr_top.specs.inner.Streamed.{EndsAt, GivesStream, StreamServed}
use Rattle.corr_top.specs.declared.cutting.FileStop.{FileStop}
use Rattle.corr_top.specs.declared.cutting.FileStop.TheVariants as stop_of
use Rattle.corr_top.specs.declared.serving.StreamedDay.{StreamedDay}
use Rattle.corr_top.specs.declared.stream.Stage.{Stage}
use Rattle.corr_top.specs.declared.stream.Stage.TheVariants as stage
use Rattle.corr_top.proofs.Adding.{in_front}
use Rattle.corr_top.proofs.Answering.{all_places, entered_by, has_answered}
use Rattle.corr_top.proofs.Fronts.{All-after}
use Rattle.corr_top.proofs.Origins.{sent-valid}
use Rattle.corr_top.proofs.Replying.{get_all}
use Rattle.corr_top.proofs.Batches.{get_there, unmapped}

-- the entries after the opening have the shape of what is written down
shapes_of : (base added history : List Entry) → history ≡ base ++ added → All IsEntry history → All HasPayShape added
shapes_of base added history is all k d within =
    (All-after IsEntry base added (subst (λ (es : List Entry). All IsEntry es) is all) k d within).pay

-- a pay is that of a message
from_pays : (readings : List (Result Pay NoPay)) (k : ℕ) (pay : Pay) → slice_get (pays_in readings) k ≡ Some pay → (n : ℕ) × (slice_get readings n ≡ Some (Ok pay))
from_pays [] k pay at = absurd (none-some pay at)
from_pays (Ok p ∷ readings) zero pay at = (zero, ap (λ (x : Pay). Some (Ok x)) (same_Some p pay at))
from_pays (Ok p ∷ readings) (suc k) pay at = let r = from_pays readings k pay at in (suc r.0, r.1)
from_pays (Err why ∷ readings) k pay at = let r = from_pays readings k pay at in (suc r.0, r.1)

-- pays ahead of a place are of messages ahead of another
abbrev AreAhead : List (Result Pay NoPay) → ℕ → ℕ → Type 0
AreAhead readings n k = (j : ℕ) (other : Pay) → j < k → slice_get (pays_in readings) j ≡ Some other → (m : ℕ) × (m < n) × (slice_get readings m ≡ Some (Ok other))

ahead_more : (p : Pay) (readings : List (Result Pay NoPay)) (n k : ℕ) → AreAhead readings n k → AreAhead (Ok p ∷ readings) (suc n) (suc k)
ahead_more p readings n k ahead zero other less is = (zero, omega arith, ap (λ (x : Pay). Some (Ok x)) (same_Some p other is))
ahead_more p readings n k ahead (suc j) other less is = let m = ahead j other (omega (arith, less)) is in let before = m.1 in (suc m.0, omega (arith, before), m.2)

-- the pay of a message stands among the pays, and those ahead of it are of messages ahead of that one
asked_at : (readings : List (Result Pay NoPay)) (n : ℕ) (pay : Pay) → slice_get readings n ≡ Some (Ok pay) → (k : ℕ) × (slice_get (pays_in readings) k ≡ Some pay) × AreAhead readings n k
asked_at [] n pay at = absurd (none-some (Ok pay) at)
asked_at (Ok p ∷ readings) zero pay at = (zero, (let s : p ≡ pay = cc (at) in ap (λ (x : Pay). Some x) s), λ j other less is. absurd (omega (arith, less)))
asked_at (Ok p ∷ readings) (suc n) pay at = let r = asked_at readings n pay at in (suc r.0, r.1, ahead_more p readings n r.0 r.2)
asked_at (Err why ∷ readings) zero pay at = absurd (cc (at))
asked_at (Err why ∷ readings) (suc n) pay at =
    let r = asked_at readings n pay at in (r.0, r.1, λ j other less is. let m = r.2 j other less is in let before = m.1 in (suc m.0, omega (arith, before), m.2))

module _ (o : Opening) (readings : List (Result Pay NoPay)) (history : List Entry) (faults : ℕ) (made : List Served) (told : AreTold o history readings made) (turn : o.made ≡ 1 → AreServedInOrder o history readings made) where
  -- ---- pays that found no room

  -- the pay of a message with a reply is entered
  entered_as : (pay : Pay) (r : Reply) (one : Served) → served.Reply r ≡ one → IsTold o history (Ok pay) one → IsSome (entered_at pay.mir history)
  entered_as pay r one is answers = entered_by pay history r (subst (IsTold o history (Ok pay)) (sym is) answers)

  -- where each message ahead of a place has a reply, their pays are entered
  entered_ahead : (at : ℕ) (replies : List Reply) → take at made ≡ are_replies replies → (n : ℕ) (pay : Pay) → n < at → slice_get readings n ≡ Some (Ok pay) → IsSome (entered_at pay.mir history)
  entered_ahead at replies ahead n pay before is =
      let below = get_below readings n (Ok pay) is in
      let m = get_there made n (let e = told.each in omega (arith, below, e)) in
      let front : slice_get (are_replies replies) n ≡ Some m.0 = subst (λ (xs : List Served). slice_get xs n ≡ Some m.0) ahead (in_front at made n m.0 before m.1) in
      let r = unmapped served.Reply replies n m.0 front in
      entered_as pay r.0 m.0 r.2 (told.told n (Ok pay) m.0 is m.1)

  short_of : (reading : Result Pay NoPay) (at entries end need : ℕ) → slice_get readings at ≡ Some reading → IsTold o history reading (served.Full entries end need)
      → ((n : ℕ) (pay : Pay) → n < at → slice_get readings n ≡ Some (Ok pay) → IsSome (entered_at pay.mir history)) → LacksRoomThen o.accounts o.base (pays_in readings) o.day history entries end need
  short_of reading at entries end need there short before =
      let place = asked_at readings at short.0 (there ∙ ap (λ (r : Result Pay NoPay). Some r) short.1) in
      record {
        place = place.0;
        pay = short.0;
        pay_is = place.1;
        ahead = λ k other less is. let m = place.2 k other less is in before m.0 other m.1 m.2;
        had = short.2;
      }

  lacks_of : (entries end need : ℕ) → IsFirstFull made entries end need → LacksRoomThen o.accounts o.base (pays_in readings) o.day history entries end need
  lacks_of entries end need first =
      let below = get_below made first.at (served.Full entries end need) first.there in
      let r = get_there readings first.at (let e = told.each in omega (arith, below, e)) in
      short_of r.0 first.at entries end need r.1 (told.told first.at r.0 (served.Full entries end need) r.1 first.there) (entered_ahead first.at first.replies first.ahead)

  -- ---- each pay was tried, where each message has a reply or found no room

  -- a pay had no room, by some numbers
  abbrev NoRoomOf : Pay → Type 0
  NoRoomOf pay = (count : ℕ) × (gate : ℕ) × (bytes : ℕ) × HadNoRoom o.accounts o.base o.day history pay count gate bytes

  one_tried : (pay : Pay) (one : Served) → IsTold o history (Ok pay) one → IsTried one → IsSome (entered_at pay.mir history) ⊎ NoRoomOf pay
  one_tried pay (served.Reply r) is answered = inl (entered_by pay history r is)
  one_tried pay (served.Full entries end need) short answered =
      let same : short.0 ≡ pay = let a = short.1 in cc (a) in
      inr (entries, end, need, subst (λ (p : Pay). HadNoRoom o.accounts o.base o.day history p entries end need) same short.2)
  one_tried pay (served.Stopped why) is answered = absurd answered

  tried : All IsTried made → (k : ℕ) (pay : Pay) → slice_get (pays_in readings) k ≡ Some pay → IsSome (entered_at pay.mir history) ⊎ NoRoomOf pay
  tried all k pay at =
      let n = from_pays readings k pay at in
      let below = get_below readings n.0 (Ok pay) n.1 in
      let m = get_there made n.0 (let e = told.each in omega (arith, below, e)) in
      one_tried pay m.0 (told.told n.0 (Ok pay) m.0 n.1 m.1) (get_all IsTried made n.0 m.0 all m.1)

  pub tried_at : (before after : ℕ) (stop : BookStop) → StopsAsServed before after made stop → EachTried o.accounts o.base (pays_in readings) o.day history stop
  tried_at before after (booking.DiskFault then now) stops = tt
  tried_at before after (booking.Full entries end need) stops = tried stops.2
  tried_at before after booking.Memory stops = tt

  -- ---- which pays one worker entered

  pub in_order : (before after : ℕ) (stop : BookStop) → StopsAsServed before after made stop → o.made ≡ 1 → EntersInOrder o.accounts o.base (pays_in readings) o.day history stop
  in_order before after (booking.DiskFault then now) stops one = let e = (turn one).entered in let f = stops.1 in record { entered = e.entered; stops = e.failed (f.at, then, now, f.there) }
  in_order before after (booking.Full entries end need) stops one = let e = (turn one).entered in record { entered = e.entered; stops = e.all stops.2 }
  in_order before after booking.Memory stops one = let e = (turn one).entered in record { entered = e.entered; stops = tt }

  -- ---- why there are no texts

  -- what the first message tells over whose pay the disk failed
  told_failed : (from to : ℕ) → IsFirstFailed made from to → TellsHalt o (halt.Disk from to)
  told_failed from to first =
      let one = served.Stopped (halt.Disk from to) in
      let below = get_below made first.at one first.there in
      let r = get_there readings first.at (let e = told.each in omega (arith, below, e)) in
      told.told first.at r.0 one r.1 first.there

  pub cause_of : (before after : ℕ) (stop : BookStop) → before ≡ o.at_open → after ≡ faults → (IsCalm o.at_open faults → faults ≡ o.at_open) → StopsAsServed before after made stop → StopCause o (pays_in readings) history faults stop
  cause_of before after (booking.DiskFault then now) was is calm stops =
      let says = told_failed then now stops.1 in
      let rose : Rose o.at_open faults = subst (λ (x : ℕ × ℕ). Rose x.0 x.1) (λ k. (was k, is k)) stops.0 in
      (says.0, says.1 ∙ ap counted says.0 ∙ sym rose, says.1)
  cause_of before after (booking.Full entries end need) was is calm stops =
      (calm (subst (λ (x : ℕ × ℕ). IsCalm x.0 x.1) (λ k. (was k, is k)) stops.0), lacks_of entries end need stops.1, λ one. (turn one).short entries end need stops.1)
  cause_of before after booking.Memory was is calm stops = tt

module _ {S D : Type 0} (source : sources.Ghosts S) (d : disks.Ghosts D) (directory : Directory) (workers most : ℕ) (from to : S) (old : Parts D) (new : D) (bytes : List ℕ) (cut : List (List ℕ)) (file : HasMessages source from to bytes cut)
    (history : List Entry) (left : HasServed d (opening_with d old workers most) (past_of d old) (readings_of directory old.accounts cut) old.accounts history new) where
  abbrev books : Opening
  books = opening_with d old workers most

  abbrev readings : List (Result Pay NoPay)
  readings = readings_of directory old.accounts cut

  -- a count that has not risen is that at the opening
  still : LeavesClosed d books history new → IsCalm old.at_open (d.faults new) → d.faults new ≡ old.at_open
  still (inl alone) calm = alone.sure
  still (inr failed) calm = absurd (calm failed.0)

  module _ (made : List Served) (told : AreTold books history readings made) (turn : workers ≡ 1 → AreServedInOrder books history readings made) where
    -- its texts were made
    pub day_done : (count before : ℕ) (texts : Texts) → before ≡ old.at_open → count ≡ length old.base → AreInstructions directory.tables directory.ssi → IsChart old.accounts
        → GivesTexts old.accounts history made before (d.faults new) count (Ok texts) → GivesDay source d directory workers most from to old new (Ok texts)
    day_done count before texts was counted are sound gives =
        let replies = gives.replies in
        let calm = subst (λ (n : ℕ). IsCalm n (d.faults new)) was gives.calm in
        let sends = subst (λ (n : ℕ). SendsAccepted old.accounts (n + 1) history) counted gives.accepted in
        record {
          bytes = bytes;
          cut = cut;
          history = history;
          replies = replies;
          day = record {
            file = file;
            served = left;
            calm = calm;
            answered = has_answered books history readings made replies told turn gives.made_is;
          };
          report_is = gives.report_is;
          out_is = gives.out_is ∙ ap (λ (n : ℕ). sent_from old.accounts (n + 1) history) counted;
          valid = sent-valid directory old.accounts old.day cut old.base left.added history are sound left.is left.each (shapes_of old.base left.added history left.is left.journal.entries) left.journal.legal sends;
        }

    -- or not
    pub day_stops : (count before : ℕ) (s : Status) → before ≡ old.at_open → GivesTexts old.accounts history made before (d.faults new) count (Err s) → GivesDay source d directory workers most from to old new (Err s)
    day_stops count before s was gives = inr (inr (record {
      stop = gives.stop;
      bytes = bytes;
      cut = cut;
      history = history;
      status_is = gives.status_is;
      file = file;
      served = left;
      tried = tried_at books readings history (d.faults new) made told turn before (d.faults new) gives.stop gives.stops;
      alone = in_order books readings history (d.faults new) made told turn before (d.faults new) gives.stop gives.stops;
      cause = cause_of books readings history (d.faults new) made told turn before (d.faults new) gives.stop was refl (still left.leaves) gives.stops;
    }))

-- ---- a day whose messages were served while their file was read

-- what was left of books on an opening's accounts
left_on : {D : Type 0} (d : disks.Ghosts D) (o : Opening) (past : ℕ → List ℕ → Type 0) (readings : List (Result Pay NoPay)) (chart : Chart) (history : List Entry) (left : D) → HasServed d o past readings chart history left → HasServed d o past readings o.accounts history left
left_on d o past asked chart history left has = record { accounts = refl; added = has.added; is = has.is; each = has.each; journal = has.journal; leaves = has.leaves; in_turn = has.in_turn; honest = has.honest }

module _ {S D : Type 0} (source : sources.Ghosts S) (d : disks.Ghosts D) (directory : Directory) (workers most : ℕ) (from : S) (old : Parts D)
    (are : AreInstructions directory.tables directory.ssi) (sound : IsChart old.accounts) (count before : ℕ) (was : before ≡ old.at_open) (counted : count ≡ length old.base) where
  abbrev opening : Opening
  opening = opening_with d old workers most

  abbrev asked_by : List (List ℕ) → List (Result Pay NoPay)
  asked_by given = readings_of directory old.accounts given

  -- the file stopped it, or memory ran out
  by_file : (to : S) (stop : FileStop) (bytes : List ℕ) (given : List (List ℕ)) → StopsAtMessages source from to bytes stop → AreGiven source from to bytes given
      → (day : ServedDay D) → FeedServed d opening (past_of d old) (asked_by given) day → GivesDay source d directory workers most from to old day.closed.disk (Err (status_of_file stop))
  by_file to stop bytes given stops are_given day served = inr (inl (record {
    stop = stop;
    bytes = bytes;
    given = given;
    history = day.closed.history.entries;
    status_is = refl;
    stops = stops;
    are_given = are_given;
    served = left_on d opening (past_of d old) (asked_by given) day.closed.accounts day.closed.history.entries day.closed.disk served.left;
    alone = served.front;
  }))

  by_served : {V M : Type 0} (items : V → List Served) (to : S) (bytes : List ℕ) (given : List (List ℕ)) (history : List Entry) (new : D) → HasServed d opening (past_of d old) (asked_by given) old.accounts history new
      → (served : Result V M) → HasMessages source from to bytes given ⊎ IfOk served (λ _. ⊥) → IfOk served (λ made. AreTold opening history (asked_by given) (items made))
      → IfOk served (λ made. workers ≡ 1 → AreServedInOrder opening history (asked_by given) (items made))
      → (r : Result Texts Status) → IfOk served (λ made. GivesTexts old.accounts history (items made) before (d.faults new) count r) → IfErr served (λ _. r ≡ Err status.Memory)
      → GivesDay source d directory workers most from to old new (Err status.Memory) → GivesDay source d directory workers most from to old new r
  by_served items to bytes given history new left (Ok made) (inl file) told turn (Ok texts) gives memory none = day_done source d directory workers most from to old new bytes given file history left (items made) told turn count before texts was counted are sound gives
  by_served items to bytes given history new left (Ok made) (inl file) told turn (Err s) gives memory none = day_stops source d directory workers most from to old new bytes given file history left (items made) told turn count before s was gives
  by_served items to bytes given history new left (Ok made) (inr never) told turn r gives memory none = absurd never
  by_served items to bytes given history new left (Err e) file told turn r gives memory none = subst (GivesDay source d directory workers most from to old new) (sym memory) none

  pub stream_ends : (s : StreamedDay S D) → StreamServed source d opening (past_of d old) (readings_of directory old.accounts) from s → (r : Result Texts Status) → GivesStream d s.day s.file.stage before count r
      → GivesDay source d directory workers most from s.file.source old s.day.closed.disk r
  stream_ends s had r gives = by_stage s.file.stage had.ends gives
    where
      history : List Entry
      history = s.day.closed.history.entries

      left : HasServed d opening (past_of d old) (asked_by had.given) old.accounts history s.day.closed.disk
      left = left_on d opening (past_of d old) (asked_by had.given) s.day.closed.accounts history s.day.closed.disk had.served.left

      stopped : (stop : FileStop) → StopsAtMessages source from s.file.source had.bytes stop → GivesDay source d directory workers most from s.file.source old s.day.closed.disk (Err (status_of_file stop))
      stopped stop stops = by_file s.file.source stop had.bytes had.given stops had.are_given s.day had.served

      day_gives : HasMessages source from s.file.source had.bytes had.given ⊎ IfOk s.day.served (λ _. ⊥) → StopsAtMessages source from s.file.source had.bytes stop_of.Memory → GivesServed d s.day before count r
          → GivesDay source d directory workers most from s.file.source old s.day.closed.disk r
      day_gives whole memory gives =
          by_served (λ made. made.items) s.file.source had.bytes had.given history s.day.closed.disk left s.day.served whole had.served.told had.served.turn r
          (subst (λ (c : Chart). IfOk s.day.served (λ made. GivesTexts c history made.items before (d.faults s.day.closed.disk) count r)) had.served.left.accounts gives.texts) gives.none (stopped stop_of.Memory memory)

      by_stage : (at : Stage) → EndsAt source from s.file.source had.bytes had.given s.day.served at → GivesStream d s.day at before count r → GivesDay source d directory workers most from s.file.source old s.day.closed.disk r
      by_stage stage.Whole ends gives = day_gives ends.0 ends.1 gives
      by_stage (stage.Stopped stop) ends gives = subst (GivesDay source d directory workers most from s.file.source old s.day.closed.disk) (sym gives) (stopped stop ends)
      by_stage stage.Going ends gives = day_gives (inr ends.0) ends.1 gives

-- what the making of the texts needs of a served day
pub places_in : {D : Type 0} (d : disks.Ghosts D) (o : Opening) (past : ℕ → List ℕ → Type 0) (readings : List (Result Pay NoPay)) (day : ServedDay D) → FeedServed d o past readings day
    → IfOk day.served (λ made. (replies : List Reply) → made.items ≡ are_replies replies → All (NamesPlace day.closed.history.entries) replies)
places_in d o past readings day all = by_told (λ made. made.items) day.served all.told
  where
    by_told : {V M : Type 0} (items : V → List Served) (served : Result V M) → IfOk served (λ made. AreTold o day.closed.history.entries readings (items made))
        → IfOk served (λ made. (replies : List Reply) → items made ≡ are_replies replies → All (NamesPlace day.closed.history.entries) replies)
    by_told items (Ok made) told = λ replies is. all_places o day.closed.history.entries readings (items made) replies told is
    by_told items (Err e) told = tt

pub few_made : {D : Type 0} (d : disks.Ghosts D) (o : Opening) (past : ℕ → List ℕ → Type 0) (readings : List (Result Pay NoPay)) (day : ServedDay D) → FeedServed d o past readings day → (n : ℕ) → length readings ≤ n → IfOk day.served (λ made. length made.items ≤ n)
few_made d o past readings day all n few = by_told (λ made. made.items) day.served all.told
  where
    by_told : {V M : Type 0} (items : V → List Served) (served : Result V M) → IfOk served (λ made. AreTold o day.closed.history.entries readings (items made)) → IfOk served (λ made. length (items made) ≤ n)
    by_told items (Ok made) told = let e = told.each in omega (arith, e, few)
    by_told items (Err e) told = tt
