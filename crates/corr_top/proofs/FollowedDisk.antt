-- Packets that are taken on a follower's disk.
use Rattle.std.proofs.Common.{◌≡◌, ◌≤◌, ◌≢◌, ℕ, List, [], ◌∷◌, ◌++◌, Some, length, map, refl, sym, ap, ◌∙◌, subst, arith, append_assoc, append-nil}
use mathlib.Core.Bool.{true≢false}
use Rattle.std.specs.Prelude.{IfSome}
use Rattle.std.proofs.lemmas.List.Elements.{All-head, All-nil, All-push, All-tail}
use Rattle.corr_disk.specs.declared.disk.Disk as disks
use Rattle.corr_io.specs.declared.source.Source as sources
use Rattle.day_model.specs.declared.entry.Entry.{Entry}
use Rattle.day_model.specs.Chart.{Chart}
use Rattle.jrn_book.specs.Opening.{Finding, IsFound, book, faulty, found_by, no_book, other_version}
use Rattle.jrn_book.proofs.laws.Findings.{one_finding}
use Rattle.jrn_file.specs.Reading.{opened_of}
use Rattle.jrn_file.specs.declared.fault.OpenFault.{OpenFault}
use Rattle.jrn_file.specs.declared.fault.OpenFault.TheVariants as opening
use Rattle.standby.specs.declared.answer.TakeFault.{TakeFault}
use Rattle.standby.specs.declared.answer.TakeFault.TheVariants as taking
use Rattle.standby.specs.declared.packet.Packet.{Packet}
use Rattle.standby.specs.Following.{BeginsAs}
use Rattle.standby.specs.Held.{Held, MayComeNext, journal, nothing}
use Rattle.standby.specs.Packets.{BeginsWithPacket, IsPacket}
use Rattle.standby.specs.Taking.{HasRoom, IsFull}
use Rattle.standby.proofs.laws.Packets.{one_packet}
use Rattle.corr_top.specs.declared.cutting.FileStop.{FileStop}
use Rattle.corr_top.specs.declared.cutting.FileStop.TheVariants as file
use Rattle.corr_top.specs.declared.status.Status.TheVariants as status
use Rattle.corr_top.specs.Ready.{IsSure, TellsAll}
use Rattle.corr_top.specs.Followed.{ArePackets, EndsWithin, HoldsRecords, FitsFourBytes, IsTakeable, StopsAtPackets, StopsBeginning, StopsTaking, packet_bytes}
use Rattle.corr_top.specs.declared.reading.ReadStop.{ReadStop}
use Rattle.corr_top.specs.declared.reading.ReadStop.TheVariants as reading
use Rattle.corr_top.specs.MessageFile.{most_message_bytes}
use Rattle.corr_top.specs.inner.Reading.{IsStopped}
use Rattle.corr_top.specs.Ship.{joined_all}
use Rattle.corr_top.specs.Stops.{status_of_file, status_of_opening, status_of_taking}
use Rattle.corr_top.specs.inner.Stops.{file_stop_of_read}
use Rattle.corr_top.proofs.FaultCounts.{same_rose, tells_rose}
use Rattle.corr_top.proofs.Told.{took_whole}

-- ---- bytes are one thing only to a follower

pub same_held : (bytes : List ℕ) (a b : Held) → BeginsAs bytes a → BeginsAs bytes b → a ≡ b
same_held bytes nothing nothing one two = refl
same_held bytes nothing (journal chart history) one two = absurd (two.0 one)
same_held bytes (journal chart history) nothing one two = absurd (one.0 two)
same_held bytes (journal c h) (journal d k) one two =
    let same = one_finding (opened_of bytes) (book c h) (book d k) one.1 two.1 in
    cc (same)

-- ---- packets

-- the bytes of a packet are that packet
pub whole : (packet : Packet) → FitsFourBytes packet → IsPacket (packet_bytes packet) packet.number packet.body
whole packet short = record { few = short.few; short = short.short; is = sym (append-nil (packet_bytes packet)) }

-- bytes of more than one packet begin with the first
begins : (packet : Packet) (packets : List Packet) (bytes : List ℕ) → ArePackets bytes (packet ∷ packets)
    → BeginsWithPacket bytes packet.number packet.body (joined_all (map packet_bytes packets))
begins packet packets bytes are =
    let first = All-head FitsFourBytes packet packets are.each in
    record { few = first.few; short = first.short; is = are.are }

-- and the rest are the others
others : (packet : Packet) (packets : List Packet) (bytes : List ℕ) → ArePackets bytes (packet ∷ packets) → ArePackets (joined_all (map packet_bytes packets)) packets
others packet packets bytes are = record { each = All-tail FitsFourBytes packet packets are.each; are = refl }

-- there are some
some_bytes : (packet : Packet) (rest : List ℕ) → [] ≡ packet_bytes packet ++ rest → ⊥
some_bytes packet rest is = absurd (omega (arith, ap length is))

-- bytes are one list of packets only
pub one_cut : (bytes : List ℕ) (a b : List Packet) → ArePackets bytes a → ArePackets bytes b → a ≡ b
one_cut bytes [] [] one two = refl
one_cut bytes [] (q ∷ b) one two = absurd (some_bytes q (joined_all (map packet_bytes b)) (sym one.are ∙ two.are))
one_cut bytes (p ∷ a) [] one two = absurd (some_bytes p (joined_all (map packet_bytes a)) (sym two.are ∙ one.are))
one_cut bytes (p ∷ a) (q ∷ b) one two =
    let same = one_packet bytes p.number q.number p.body q.body _ _ (begins p a bytes one) (begins q b bytes two) in
    let rest = one_cut (joined_all (map packet_bytes a)) a b (others p a bytes one) (subst (λ (l : List ℕ). ArePackets l b) (sym same.2) (others q b bytes two)) in
    λ i. record { number = same.0 i; body = same.1 i } ∷ rest i

-- bytes that are packets, and begin with one: it is the first of them, and what follows are the others
pub next_cut : (bytes more : List ℕ) (packets : List Packet) (p : Packet) → ArePackets bytes packets → BeginsWithPacket bytes p.number p.body more
    → (others : List Packet) × (packets ≡ p ∷ others) × ArePackets more others
next_cut bytes more [] p are first = absurd (some_bytes p more (sym are.are ∙ first.is))
next_cut bytes more (q ∷ packets) p are first =
    let same = one_packet bytes q.number p.number q.body p.body _ more (begins q packets bytes are) first in (
      packets,
      λ i. record { number = same.0 i; body = same.1 i } ∷ packets,
      subst (λ (l : List ℕ). ArePackets l packets) same.2 (others q packets bytes are),
    )

-- no bytes are no packets
pub none_cut : ArePackets [] []
none_cut = record { each = All-nil FitsFourBytes; are = refl }

-- where no whole packet stands in front, there is none
pub no_first : (bytes : List ℕ) (packets : List Packet) → ArePackets bytes packets → ((number : ℕ) (r more : List ℕ) → BeginsWithPacket bytes number r more → ⊥) → packets ≡ []
no_first bytes [] are none = refl
no_first bytes (p ∷ packets) are none = absurd (none p.number p.body _ (begins p packets bytes are))

joined_push : (packets : List Packet) (p : Packet) → joined_all (map packet_bytes (packets ++ p ∷ [])) ≡ joined_all (map packet_bytes packets) ++ packet_bytes p
joined_push [] p = append-nil (packet_bytes p)
joined_push (q ∷ packets) p =
    ap (λ (l : List ℕ). packet_bytes q ++ l) (joined_push packets p) ∙ sym (append_assoc (packet_bytes q) (joined_all (map packet_bytes packets)) (packet_bytes p))

-- a packet behind others
pub one_behind : (front : List ℕ) (packets : List Packet) (p : Packet) → ArePackets front packets → FitsFourBytes p → ArePackets (front ++ packet_bytes p) (packets ++ p ∷ [])
one_behind front packets p are short = record {
  each = All-push FitsFourBytes packets p are.each short;
  are = ap (λ (l : List ℕ). l ++ packet_bytes p) are.are ∙ sym (joined_push packets p);
}

-- bytes that are packets to their end don't end within one
never_within : (bytes : List ℕ) (packets : List Packet) (at : ℕ) → ArePackets bytes packets → EndsWithin bytes at → ⊥
never_within bytes packets at are within = behind packets within.packets bytes within.front within.rest are within.before within.bytes_are within.some within.none
  where
    behind : (all before : List Packet) (bytes front rest : List ℕ) → ArePackets bytes all → ArePackets front before → bytes ≡ front ++ rest → rest ≢ []
        → ((number : ℕ) (r more : List ℕ) → BeginsWithPacket rest number r more → ⊥) → ⊥
    behind [] [] bytes front rest are is cut some none = some (sym (sym are.are ∙ cut ∙ ap (λ (l : List ℕ). l ++ rest) is.are))
    behind (p ∷ all) [] bytes front rest are is cut some none =
        let here : bytes ≡ rest = cut ∙ ap (λ (l : List ℕ). l ++ rest) is.are in
        none p.number p.body _ (subst (λ (l : List ℕ). BeginsWithPacket l p.number p.body (joined_all (map packet_bytes all))) here (begins p all bytes are))
    behind [] (q ∷ before) bytes front rest are is cut some none =
        some_bytes q (joined_all (map packet_bytes before) ++ rest)
        (sym are.are ∙ cut ∙ ap (λ (l : List ℕ). l ++ rest) is.are ∙ append_assoc (packet_bytes q) (joined_all (map packet_bytes before)) rest)
    behind (p ∷ all) (q ∷ before) bytes front rest are is cut some none =
        let first = All-head FitsFourBytes q before is.each in
        let two : BeginsWithPacket bytes q.number q.body (joined_all (map packet_bytes before) ++ rest) = record {
          few = first.few;
          short = first.short;
          is = cut ∙ ap (λ (l : List ℕ). l ++ rest) is.are ∙ append_assoc (packet_bytes q) (joined_all (map packet_bytes before)) rest;
        } in
        let same = one_packet bytes p.number q.number p.body q.body _ _ (begins p all bytes are) two in
        behind all before _ _ rest (others p all bytes are) (others q before front is) same.2 some none

pub packets_memory : {S : Type 0} (source : sources.Ghosts S) (old new : S) (bytes meant : List ℕ) (packets : List Packet) (stop : FileStop) → TellsAll source old new meant
    → length meant ≤ most_message_bytes → ArePackets meant packets → StopsAtPackets source old new bytes stop → status_of_file stop ≡ status.Memory
packets_memory source old new bytes meant packets (file.Fault b a) told short are stops = absurd (told.sound (same_rose source.faults old new b a stops))
packets_memory source old new bytes meant packets (file.TooLarge b m) told short are stops =
    let size : length bytes ≡ length meant = ap length (took_whole source.left source.faults most_message_bytes old new bytes meant told.told short stops.took) in
    let past = stops.past in
    absurd (omega (arith, size, past, short))
packets_memory source old new bytes meant packets (file.Framing at) told short are stops =
    let same = took_whole source.left source.faults most_message_bytes old new bytes meant told.told short stops.0.took in
    absurd (never_within meant packets at are (subst (λ (l : List ℕ). EndsWithin l at) same stops.1))
packets_memory source old new bytes meant packets file.Memory told short are stops = refl

-- a record that has room isn't refused for want of it
no_room : (held : Held) (r : List ℕ) (end need : ℕ) → IsFull held r end need → HasRoom held r → ⊥
no_room nothing r end need full room = full
no_room (journal chart history) r end need full room = let at = full.0 in let size = full.1 in let past = full.2 in omega (arith, at, size, past, room)

-- ---- a disk

-- what stands on a disk that tells its bytes, and doesn't fail, is begun with
module _ {D : Type 0} (d : disks.Ghosts D) (old new : D) where
  found_none : (held : Held) (fault : OpenFault) (f : Finding) → found_by fault ≡ Some f → IsSure d old new → HoldsRecords d old held → StopsBeginning d old new fault
      → ((chart : Chart) (history : List Entry) → book chart history ≡ f → ⊥) → ⊥
  found_none nothing fault f is sure holds stops differs = absurd (cc (is, stops.unmade sure.told (holds.told sure.told)))
  found_none (journal chart history) fault f is sure holds stops differs =
      let found = subst (λ o. IfSome o (IsFound (opened_of (d.reads old)))) is (stops.told sure.told) in
      differs chart history (one_finding (opened_of (d.reads old)) (book chart history) f (holds.told sure.told).1 found)

  pub beginning_memory : (held : Held) (stop : OpenFault) → IsSure d old new → HoldsRecords d old held → StopsBeginning d old new stop → status_of_opening stop ≡ status.Memory
  beginning_memory held opening.NotAJournal sure holds stops = absurd (found_none held opening.NotAJournal no_book refl sure holds stops (λ c h same. cc))
  beginning_memory held (opening.Version found) sure holds stops = absurd (found_none held (opening.Version found) (other_version found) refl sure holds stops (λ c h same. cc))
  beginning_memory held (opening.Damaged at) sure holds stops = absurd (found_none held (opening.Damaged at) (faulty at) refl sure holds stops (λ c h same. cc))
  beginning_memory held (opening.DiskFault b a) sure holds stops = absurd (sure.sound (tells_rose (d.faults old) b a (d.faults new) stops.cause))
  beginning_memory held opening.Memory sure holds stops = refl

  -- ---- packets that can be taken are

  pub taking_memory : (held : Held) (packets : List Packet) (stop : TakeFault) (entries : ℕ) → IsSure d old new → IsTakeable held packets → StopsTaking d old new held packets stop entries
      → status_of_taking entries stop ≡ status.Memory
  taking_memory held packets taking.NotAPacket entries sure may stops = absurd (stops.shows.1 stops.packet.number stops.packet.body (whole stops.packet stops.short))
  taking_memory held packets (taking.NotNext number) entries sure may stops =
      let shows = stops.shows in
      let same = one_packet (packet_bytes stops.packet) number stops.packet.number shows.1 stops.packet.body [] [] shows.2 (whole stops.packet stops.short) in
      let can = may stops.taken stops.packet stops.after stops.at stops.good stops.ships (sym same.0 ∙ shows.3) in
      absurd (shows.4.1 (subst (λ (r : List ℕ). MayComeNext stops.after r) (sym same.1) can.0))
  taking_memory held packets (taking.Full end need) entries sure may stops =
      let shows = stops.shows in
      let same = one_packet (packet_bytes stops.packet) _ stops.packet.number shows.1 stops.packet.body [] [] shows.2 (whole stops.packet stops.short) in
      let can = may stops.taken stops.packet stops.after stops.at stops.good stops.ships (sym same.0) in
      absurd (no_room stops.after shows.1 end need shows.3.1 (subst (λ (r : List ℕ). HasRoom stops.after r) (sym same.1) can.1))
  taking_memory held packets (taking.DiskFault from to) entries sure may stops = absurd (sure.sound (tells_rose (d.faults old) from to (d.faults new) stops.shows.3.2))
  taking_memory held packets (taking.Broken at_open now) entries sure may stops = absurd (true≢false (sym stops.shows.0))
  taking_memory held packets taking.Memory entries sure may stops = refl

-- a file that couldn't be read stops the command so, whatever its bytes are
pub stops_reading_packets : {S : Type 0} (source : sources.Ghosts S) (old new : S) (bytes : List ℕ) (stop : ReadStop) → IsStopped source.faults old new stop → StopsAtPackets source old new bytes (file_stop_of_read stop)
stops_reading_packets source old new bytes (reading.Fault then now) stopped = stopped
stops_reading_packets source old new bytes reading.Memory stopped = stopped
