-- The promise of `follow`.
use Rattle.std.proofs.Common.{◌≡◌, ◌⊎◌, ◌+◌, ◌∙◌, ◌∷◌, ℕ, List, [], get_or, Some, true, false, ap, arith, inl, inr, length, refl, subst, sym}
use mathlib.Core.Bool.{true≢false}
use Rattle.std.specs.Prelude.{IsTrue, take}
use Rattle.corr_disk.specs.declared.disk.Disk as disks
use Rattle.corr_io.specs.declared.sink.Sink as sinks
use Rattle.corr_io.specs.declared.source.Source as sources
use Rattle.jrn_book.specs.Journal.{item_records}
use Rattle.jrn_codec.specs.Header.{head_bytes}
use Rattle.jrn_file.specs.Making.{IsOther, IsUnmade}
use Rattle.jrn_file.specs.declared.fault.OpenFault.{OpenFault}
use Rattle.jrn_file.specs.declared.fault.OpenFault.TheVariants as opening
use Rattle.standby.specs.declared.answer.TakeFault.{TakeFault}
use Rattle.standby.specs.declared.answer.TakeFault.TheVariants as taking
use Rattle.standby.specs.declared.packet.Packet.{Packet}
use Rattle.standby.specs.Following.{BeginsAs}
use Rattle.standby.specs.Held.{Held, IsHeld, IsOnDisk as IsHeldOn, MayComeNext, StandsForAll, count_of, journal, nothing, records_of}
use Rattle.standby.specs.Shipping.{IsFrontOf, shipped, taken_in}
use Rattle.standby.specs.Taking.{IsFull}
use Rattle.standby.proofs.laws.Packets.{one_packet}
use Rattle.standby.proofs.laws.Shipped.{front_same, front_then, shipped_front, taken_keeps}
use Rattle.corr_top.specs.declared.cutting.FileStop.{FileStop}
use Rattle.corr_top.specs.declared.cutting.FileStop.TheVariants as file
use Rattle.corr_top.specs.declared.room.Room.{Room}
use Rattle.corr_top.specs.declared.status.Status.{Status}
use Rattle.corr_top.specs.declared.words.Command.TheVariants.{Plain}
use Rattle.corr_top.specs.declared.words.Plain.TheVariants.{Follow}
use Rattle.corr_top.specs.Commands.{meaning_of}
use Rattle.corr_top.specs.Ends.{Ends, HasPassed}
use Rattle.corr_top.specs.Follow.{follow_meaning, follow_steps}
use Rattle.corr_top.specs.Followed.{ArePackets, HasPackets, HasTaken, HoldsRecords, IsHeldOrTaken, LeavesRecords, StopsAtTake, StopsTaking, TakesInTurn, follow_line, packet_bytes}
use Rattle.corr_top.specs.Inputs.{Inputs}
use Rattle.corr_top.specs.MessageFile.{most_message_bytes}
use Rattle.corr_top.specs.OnDisk.{IsUnwritten}
use Rattle.corr_top.specs.Passing.{Passes}
use Rattle.corr_top.specs.promises.Books.{AtEachMoment, Wrote}
use Rattle.corr_top.specs.promises.Standby.{FollowPromise, Holds, IsNotTaken, KeepsHeld, RefusesOne, TakesAll, may_take, refuses_packet}
use Rattle.corr_top.specs.Steps.{Step}
use Rattle.corr_top.specs.Stops.{status_of_file, status_of_opening, status_of_taking}
use Rattle.corr_top.proofs.FollowedDisk.{same_held, whole}
use Rattle.corr_top.proofs.Told.{took_all}
use Rattle.corr_top.proofs.Walking.{named_has}
use Rattle.corr_top.proofs.promise.Agreeing.{sound_books}
use Rattle.corr_top.proofs.promise.Finished.{finished}
use Rattle.corr_top.proofs.promise.Standing.{stands_other}

-- ---- what is held

-- a journal can be made where nothing is, and not over records
made_over : (bytes : List ℕ) (first : ℕ) → IsOther bytes first → IsUnmade bytes → ⊥
made_over bytes first other (inl short) = let more = other.more in omega (arith, more, short)
made_over bytes first other (inr closed) =
    let same : first ≡ 0 = ap (λ (l : List ℕ). get_or l 0 0) (sym other.first_is ∙ closed) in
    other.not_closed same

begins_as : (bytes : List ℕ) (held : Held) → IsHeld held → StandsForAll (records_of held) bytes → BeginsAs bytes held
begins_as bytes nothing good stands = stands
begins_as bytes (journal chart history) good stands =
    let other = stands_other bytes (head_bytes chart) (item_records chart history) stands in
    (made_over bytes other.0 other.1, (good, stands))

-- what was held goes on in what is held after packets
goes_on : (records : List (List ℕ)) (packets : List Packet) → IsFrontOf records (shipped records packets)
goes_on records [] = front_same records
goes_on records (p ∷ packets) = front_then records (taken_in records p) (shipped (taken_in records p) packets) (taken_keeps records p) (goes_on (taken_in records p) packets)

module _ {D : Type 0} (d : disks.Ghosts D) (disk : D) where
  keeps_held : (held : Held) → IsTrue (d.honest disk) → IsHeld held → IsHeldOn d.honest d.reads d.may_leave disk held → KeepsHeld d disk held
  keeps_held nothing told good on = (told, on.stands told, λ image left. subst IsUnmade (sym (on.alone told image left)) (on.stands told))
  keeps_held (journal chart books) told good on = record {
    told = told;
    sound = sound_books chart books good;
    reads = on.stands told;
    crash = λ image left. subst (λ (b : List ℕ). StandsForAll (records_of (journal chart books)) b) (sym (on.alone told image left)) (on.stands told);
  }

-- ---- statuses

-- a beginning that stops, and a file that is no packets, refuse no packet
opening_refuses : (stop : OpenFault) → refuses_packet (status_of_opening stop) ≡ false
opening_refuses opening.NotAJournal = refl
opening_refuses (opening.Version found) = refl
opening_refuses (opening.Damaged at) = refl
opening_refuses (opening.DiskFault before after) = refl
opening_refuses opening.Memory = refl

file_refuses : (stop : FileStop) → refuses_packet (status_of_file stop) ≡ false
file_refuses (file.Fault before after) = refl
file_refuses (file.TooLarge bytes messages) = refl
file_refuses (file.Framing at) = refl
file_refuses file.Memory = refl

module _ {D : Type 0} (d : disks.Ghosts D) (old new : D) (held : Held) (packets : List Packet) where
  -- a packet that isn't taken tells so
  taking_tells : (fault : TakeFault) (entries : ℕ) → StopsTaking d old new held packets fault entries → may_take (status_of_taking entries fault) ≡ true
  taking_tells taking.NotAPacket entries stops = absurd (stops.shows.1 stops.packet.number stops.packet.body (whole stops.packet stops.short))
  taking_tells (taking.NotNext number) entries stops = refl
  taking_tells (taking.Full end need) entries stops = refl
  taking_tells (taking.DiskFault from to) entries stops = refl
  taking_tells (taking.Broken at_open now) entries stops = refl
  taking_tells taking.Memory entries stops = refl

  -- one that is refused, by its reason
  record Refuses (s : Status) (stops : (fault : TakeFault) × (entries : ℕ) × StopsTaking d old new held packets fault entries) : Type 0 where
    durable : IsHeldOn d.honest d.reads d.may_leave new stops.2.after
    next : stops.2.packet.number ≡ count_of stops.2.after + 1
    reason : IsNotTaken stops.2.after stops.2.packet s

  taking_refuses : (fault : TakeFault) (entries : ℕ) (stops : StopsTaking d old new held packets fault entries) → refuses_packet (status_of_taking entries fault) ≡ true
      → Refuses (status_of_taking entries fault) (fault, entries, stops)
  taking_refuses taking.NotAPacket entries stops refused = absurd (true≢false (sym refused))
  taking_refuses (taking.NotNext number) entries stops refused =
      let shows = stops.shows in
      let same = one_packet (packet_bytes stops.packet) number stops.packet.number shows.1 stops.packet.body [] [] shows.2 (whole stops.packet stops.short) in
      record {
        durable = stops.durable refl;
        next = sym same.0 ∙ shows.3;
        reason = (same.0, subst (λ (r : List ℕ). MayComeNext stops.after r → ⊥) same.1 shows.4.1);
      }
  taking_refuses (taking.Full end need) entries stops refused =
      let shows = stops.shows in
      let same = one_packet (packet_bytes stops.packet) _ stops.packet.number shows.1 stops.packet.body [] [] shows.2 (whole stops.packet stops.short) in
      record {
        durable = stops.durable refl;
        next = sym same.0;
        reason = (
          stops.entries_are,
          subst (λ (r : List ℕ). MayComeNext stops.after r) same.1 shows.3.0,
          subst (λ (r : List ℕ). IsFull stops.after r end need) same.1 shows.3.1,
        );
      }
  taking_refuses (taking.DiskFault from to) entries stops refused = absurd (true≢false (sym refused))
  taking_refuses (taking.Broken at_open now) entries stops refused = absurd (true≢false (sym refused))
  taking_refuses taking.Memory entries stops refused = absurd (true≢false (sym refused))

-- ---- how it came to its end

module _ {S K D : Type 0} (source : sources.Ghosts S) (sink : sinks.Ghosts K) (disk : disks.Ghosts D) (old new : Room S K D) (s : Status) where
  -- the packets were read and taken
  record AllTaken (j : Inputs) : Type 0 where
    begun : HoldsRecords disk old.disk j.held
    had : HasPackets source old.received new.received j.messages j.packets
    taken : HasTaken disk old.disk new.disk j.held j.packets

  -- nothing was written to the disk, and none is refused
  record NoneTaken : Type 0 where
    unwritten : IsUnwritten disk old.disk new.disk
    quiet : refuses_packet s ≡ false

  -- one wasn't taken
  record SomeTaken (j : Inputs) : Type 0 where
    begun : HoldsRecords disk old.disk j.held
    had : HasPackets source old.received new.received j.messages j.packets
    stops : StopsAtTake disk old.disk new.disk j.held j.packets s

  abbrev Came : Inputs → Type 0
  Came j = (AllTaken j × (refuses_packet s ≡ false)) ⊎ (NoneTaken ⊎ SomeTaken j)

  all_passed : (j : Inputs) → HasPassed source disk follow_meaning old new j → AllTaken j
  all_passed j passed =
      let P = Passes source disk old new j in
      record {
        begun = named_has P Step.begin follow_steps refl passed.passed;
        had = named_has P Step.packets follow_steps refl passed.passed;
        taken = named_has P Step.take follow_steps refl passed.passed;
      }

  came_so : (ended : Ends source disk follow_meaning old new sink s) → Came ended.inputs
  came_so ended =
      let j = ended.inputs in
      elim ended.ends [
        | inl done ↦ inl (all_passed j done.passed, ap refuses_packet done.status_is)
        | inr other ↦ elim other [
          | inl writing ↦ inl (all_passed j writing.passed, ap refuses_packet writing.status_is)
          | inr stop ↦ elim stop.stopped [
            | inl halts ↦ elim halts [
              | inl here ↦ inr (inl (record { unwritten = here.0.2.untouched; quiet = ap refuses_packet here.0.1 ∙ opening_refuses here.0.0 }))
              | inr one ↦ elim one.1 [
                | inl here ↦ inr (inl (record { unwritten = here.0.4; quiet = ap refuses_packet here.0.1 ∙ file_refuses here.0.0 }))
                | inr two ↦ elim two.1 [
                  | inl here ↦ inr (inr (record { begun = one.0; had = two.0; stops = here.0 }))
                  | inr three ↦ absurd three.1
                ]
              ]
            ]
            | inr memory ↦ inl (all_passed j memory.0, ap refuses_packet memory.1)
          ]
        ]
      ]

  module _ (j : Inputs) (bytes : List ℕ) (held : Held) (told : source.left old.received ≡ Some bytes) (holds : Holds disk old.disk held) where
    -- what was begun with is what the disk holds
    same : HoldsRecords disk old.disk j.held → j.held ≡ held
    same begun = same_held (disk.reads old.disk) j.held held (begun.told holds.told) (begins_as (disk.reads old.disk) held holds.good holds.reads)

    -- and the packets are those of the file
    of_file : HasPackets source old.received new.received j.messages j.packets → ArePackets bytes j.packets
    of_file had =
        subst (λ (l : List ℕ). ArePackets l j.packets) (took_all source.left source.faults most_message_bytes old.received new.received j.messages bytes told had.file.short had.file.took) had.are

    at_turn : HoldsRecords disk old.disk j.held → HasPackets source old.received new.received j.messages j.packets → TakesInTurn disk old.disk new.disk j.held j.packets
        → LeavesRecords disk old.disk held → AtEachMoment disk old.disk new.disk (IsHeldOrTaken bytes held)
    at_turn begun had turn alone = λ image left.
        let run = subst (λ (h : Held). TakesInTurn disk old.disk new.disk h j.packets) (same begun) turn in
        inr (j.packets, of_file had, (run holds.told alone).each image left)

    at_each : Came j → LeavesRecords disk old.disk held → AtEachMoment disk old.disk new.disk (IsHeldOrTaken bytes held)
    at_each (inl (all, quiet)) alone = at_turn all.begun all.had all.taken.any_moment alone
    at_each (inr (inl none)) alone = λ image left. inl (alone image (none.unwritten.any_moment.each image left))
    at_each (inr (inr some)) alone = at_turn some.begun some.had some.stops.3.any_moment alone

    module _ (honest : disk.honest new.disk ≡ disk.honest old.disk) where
      sure : IsTrue (disk.honest new.disk)
      sure = subst IsTrue (sym honest) holds.told

      takes_all : AllTaken j → Wrote sink old new s (follow_line (length j.packets) (count_of j.held) (length (shipped (records_of j.held) j.packets))) [] → TakesAll source sink disk old new s bytes held
      takes_all all wrote =
          let taken = all.taken in
          let is = same all.begun in
          let ships : records_of taken.after ≡ shipped (records_of held) j.packets = taken.ships ∙ ap (λ (h : Held). shipped (records_of h) j.packets) is in
          let line : follow_line (length j.packets) (count_of j.held) (length (shipped (records_of j.held) j.packets)) ≡ follow_line (length j.packets) (count_of held) (count_of taken.after) =
          ap (λ (l : List (List ℕ)). follow_line (length j.packets) (count_of j.held) (length l)) (sym taken.ships)
          ∙ ap (λ (h : Held). follow_line (length j.packets) (count_of h) (count_of taken.after)) is in
          record {
            packets = j.packets;
            are = of_file all.had;
            read = all.had.file.took.read.ended all.had.file.short;
            after = taken.after;
            ships = ships;
            keeps = keeps_held disk new.disk taken.after sure taken.good taken.durable;
            begins = subst (λ (l : List (List ℕ)). IsFrontOf (records_of held) l) (sym ships) (goes_on (records_of held) j.packets);
            front = λ leader front sent. subst (λ (l : List (List ℕ)). IsFrontOf l leader) (sym ships) (shipped_front leader (records_of held) j.packets front sent).0;
            wrote = subst (λ (text : List ℕ). Wrote sink old new s text []) line wrote;
          }

      refuses_one : SomeTaken j → refuses_packet s ≡ true → RefusesOne source sink disk old new s bytes held
      refuses_one some refused =
          let stop = some.stops in
          let stops = stop.3 in
          let why = taking_refuses disk old.disk new.disk j.held j.packets stop.0 stop.1 stops (sym (ap refuses_packet stop.2) ∙ refused) in
          record {
            packets = j.packets;
            are = of_file some.had;
            taken = stops.taken;
            packet = stops.packet;
            at = stops.at;
            after = stops.after;
            ships = stops.ships ∙ ap (λ (h : Held). shipped (records_of h) (take stops.taken j.packets)) (same some.begun);
            keeps = keeps_held disk new.disk stops.after sure stops.good why.durable;
            next = why.next;
            reason = subst (λ (t : Status). IsNotTaken stops.after stops.packet t) (sym stop.2) why.reason;
          }

      by_refusal : Came j → refuses_packet s ≡ true → RefusesOne source sink disk old new s bytes held
      by_refusal (inl (all, quiet)) refused = absurd (true≢false (sym refused ∙ quiet))
      by_refusal (inr (inl none)) refused = absurd (true≢false (sym refused ∙ none.quiet))
      by_refusal (inr (inr some)) refused = refuses_one some refused

  -- ahead of the first packet nothing is written to the disk
  ahead_unwritten : (ended : Ends source disk follow_meaning old new sink s) → may_take s ≡ false → IsUnwritten disk old.disk new.disk
  ahead_unwritten ended ahead = elim ended.ends [
    | inl done ↦ absurd (true≢false (sym (ap may_take done.status_is) ∙ ahead))
    | inr other ↦ elim other [
      | inl writing ↦ absurd (true≢false (sym (ap may_take writing.status_is) ∙ ahead))
      | inr stop ↦ elim stop.stopped [
        | inl halts ↦ elim halts [
          | inl here ↦ here.0.2.untouched
          | inr one ↦ elim one.1 [
            | inl here ↦ here.0.4
            | inr two ↦ elim two.1 [
              | inl here ↦
                  let tells = taking_tells disk old.disk new.disk ended.inputs.held ended.inputs.packets here.0.0 here.0.1 here.0.3 in
                  absurd (true≢false (sym (ap may_take here.0.2 ∙ tells) ∙ ahead))
              | inr three ↦ absurd three.1
            ]
          ]
        ]
        | inr memory ↦ absurd (true≢false (sym (ap may_take memory.1) ∙ ahead))
      ]
    ]
  ]

module _ {S K D : Type 0} (source : sources.Ghosts S) (sink : sinks.Ghosts K) (disk : disks.Ghosts D) (old new : Room S K D) (s : Status) (honest : disk.honest new.disk ≡ disk.honest old.disk) where
  pub follow_promise : Ends source disk (meaning_of (Plain Follow)) old new sink s → FollowPromise source sink disk old new s
  unfolding meaning_of
  follow_promise ended =
      let j = ended.inputs in
      let how = came_so source sink disk old new s ended in
      record {
        done = λ bytes held told holds some.
            let all = finished source sink disk old new s follow_meaning ended some in
            takes_all source sink disk old new s j bytes held told holds honest (all_passed source sink disk old new s j all.0) all.2;
        refused = λ bytes held told holds refused. by_refusal source sink disk old new s j bytes held told holds honest how refused;
        moments = λ bytes held told holds alone. at_each source sink disk old new s j bytes held told holds how alone;
        unwritten = λ ahead. ahead_unwritten source sink disk old new s ended ahead;
      }
