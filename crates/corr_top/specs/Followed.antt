-- Packets that are taken into a second machine's journal: what they are in a file, what that leaves, and how it stops.
use Rattle.std.specs.Prelude.{◌≡◌, ◌≢◌, ◌⊎◌, ◌<◌, ◌≤◌, ◌^◌, ◌+◌, ◌-◌, ℕ, All, IfSome, IsTrue, None, Some, List, [], ◌++◌, codes, false, length, map, slice_get, take, Err}
use Rattle.corr_disk.specs.declared.disk.Disk as disks
use Rattle.corr_disk.specs.Disk.{LeavesOnly}
use Rattle.corr_io.specs.declared.source.Source as sources
use Rattle.corr_text.specs.Digits.{padded}
use Rattle.jrn_book.specs.Opening.{BookOpenCause, IsFound, found_by}
use Rattle.jrn_file.specs.declared.fault.OpenFault.{OpenFault}
use Rattle.jrn_file.specs.Making.{IsUnmade}
use Rattle.jrn_file.specs.Reading.{opened_of}
use Rattle.standby.specs.declared.answer.TakeFault.{TakeFault}
use Rattle.standby.specs.declared.packet.Packet.{Packet}
use Rattle.standby.specs.Following.{BeginsAs}
use Rattle.standby.specs.Held.{Held, IsHeld, IsOnDisk as IsHeldOn, MayComeNext, StandsForAll, count_of, entries_of, records_of}
use Rattle.standby.specs.Packets.{BeginsWithPacket, packet_of}
use Rattle.standby.specs.Shipping.{shipped}
use Rattle.standby.specs.Taking.{HasRoom, TakeShows, is_disk_fault}
use Rattle.corr_top.specs.declared.cutting.FileStop.{FileStop}
use Rattle.corr_top.specs.declared.cutting.FileStop.TheVariants as file
use Rattle.corr_top.specs.declared.status.Status.{Status}
use Rattle.corr_top.specs.MessageFile.{most_message_bytes}
use Rattle.corr_top.specs.OnDisk.{HasNotFailed, IsUnwritten}
use Rattle.corr_top.specs.Reading.{Failed, Took}
use Rattle.corr_top.specs.Ready.{IsSure, TellsAll}
use Rattle.corr_top.specs.Ship.{joined_all}
use Rattle.corr_top.specs.StepMeaning.{StepMeaning}
use Rattle.corr_top.specs.Stops.{status_of_file, status_of_opening, status_of_taking}

-- ---- packets in a file

-- the bytes of a packet
abbrev pub packet_bytes : Packet → List ℕ
packet_bytes packet = packet_of packet.number packet.body

-- number and length have four bytes each
pub record FitsFourBytes (packet : Packet) : Type 0 where
  pub few : packet.number < 2 ^ 32
  pub short : length packet.body < 2 ^ 32

-- the bytes are these packets, one after another
pub record ArePackets (bytes : List ℕ) (packets : List Packet) : Type 0 where
  pub each : All FitsFourBytes packets
  pub are : bytes ≡ joined_all (map packet_bytes packets)

-- at this place packets end, more bytes follow, and no whole packet stands in front of them
pub record EndsWithin (bytes : List ℕ) (at : ℕ) : Type 0 where
  pub front : List ℕ
  pub packets : List Packet
  pub rest : List ℕ
  pub bytes_are : bytes ≡ front ++ rest
  pub before : ArePackets front packets
  pub some : rest ≢ []
  pub none : (number : ℕ) (r more : List ℕ) → BeginsWithPacket rest number r more → ⊥
  pub at_is : at ≡ length front

module _ {S : Type 0} (source : sources.Ghosts S) (old new : S) (bytes : List ℕ) where
  -- the file was read, of at most 64 MiB
  pub record HasFile : Type 0 where
    pub took : Took source.left source.faults most_message_bytes old new bytes
    pub short : length bytes ≤ most_message_bytes

  -- it was, and is these packets
  pub record HasPackets (packets : List Packet) : Type 0 where
    pub file : HasFile
    pub are : ArePackets bytes packets

  -- it has more bytes than that: told are those up to and with the first that is too many, and no message is counted
  pub record IsFileTooLarge (count messages : ℕ) : Type 0 where
    pub took : Took source.left source.faults most_message_bytes old new bytes
    pub past : most_message_bytes < length bytes
    pub count_is : count ≡ length bytes
    pub messages_are : messages ≡ 0

  -- how reading it stops: its source fails, it is too large, it isn't packets to its end, or memory runs out
  abbrev pub StopsAtPackets : FileStop → Type 0
  StopsAtPackets (file.Fault then now) = Failed source.faults old new then now
  StopsAtPackets (file.TooLarge count messages) = IsFileTooLarge count messages
  StopsAtPackets (file.Framing at) = HasFile × EndsWithin bytes at
  StopsAtPackets file.Memory = source.faults new ≡ source.faults old

-- ---- what is told of them

-- how many packets there were, how many of their records were added to those that were held, and how many are held then
abbrev pub follow_line : ℕ → ℕ → ℕ → List ℕ
follow_line packets before have =
    codes "PACKETS " ++ padded 6 packets ++ codes " ADDED " ++ padded 6 (have - before) ++ codes " HAVE " ++ padded 8 have ++ codes "\n"

-- the line of packets that are taken where these records are held
abbrev pub followed : Held → List Packet → List ℕ
followed held packets = follow_line (length packets) (count_of held) (length (shipped (records_of held) packets))

-- Each packet can be taken in its turn: where its number is the next one, its record may stand next, and there is room for it. What is
-- held after those before it is given by its records.
abbrev pub IsTakeable : Held → List Packet → Type 0
IsTakeable held packets = (n : ℕ) (packet : Packet) (after : Held) → slice_get packets n ≡ Some packet → IsHeld after
    → records_of after ≡ shipped (records_of held) (take n packets) → packet.number ≡ count_of after + 1 → MayComeNext after packet.body × HasRoom after packet.body

-- ---- a follower's disk

-- the bytes are what a stop may leave while these packets are taken in their order: what is held then, after some of them
abbrev pub IsTakenPart : Held → List Packet → List ℕ → Type 0
IsTakenPart held packets image = (n : ℕ) × StandsForAll (shipped (records_of held) (take n packets)) image

-- they stand for what is held, or are what a stop may leave while the packets that a file is are taken
abbrev pub IsHeldOrTaken : List ℕ → Held → List ℕ → Type 0
IsHeldOrTaken bytes held image = StandsForAll (records_of held) image ⊎ ((packets : List Packet) × ArePackets bytes packets × IsTakenPart held packets image)

module _ {D : Type 0} (d : disks.Ghosts D) where
  -- a disk holds these records, or none yet
  pub record HoldsRecords (disk : D) (held : Held) : Type 0 where
    pub good : IsHeld held
    pub told : IsTrue (d.honest disk) → BeginsAs (d.reads disk) held

  -- how the beginning of a follower stops: by its cause, and what that says of the bytes, on which a journal can't be made unless the
  -- disk or memory failed; nothing is written
  pub record StopsBeginning (old new : D) (fault : OpenFault) : Type 0 where
    pub cause : BookOpenCause (d.faults old) (d.faults new) fault
    pub told : IsTrue (d.honest old) → IfSome (found_by fault) (IsFound (opened_of (d.reads old)))
    pub unmade : IsTrue (d.honest old) → IsUnmade (d.reads old) → found_by fault ≡ None
    pub untouched : IsUnwritten d old new

  -- whatever a crash leaves of a disk stands for these records
  abbrev pub LeavesRecords : D → Held → Type 0
  LeavesRecords disk held = (image : List ℕ) → d.may_leave disk image → StandsForAll (records_of held) image

  -- while these packets are taken where a crash left this, a crash at any moment leaves what is held after some of them
  abbrev pub TakesInTurn : D → D → Held → List Packet → Type 0
  TakesInTurn old new held packets =
      IsTrue (d.honest old) → LeavesRecords old held → LeavesOnly d.moment d.left_since old new (IsTakenPart held packets)

  -- the packets were taken: what is held then is what they make of it, and it is on the disk
  pub record HasTaken (old new : D) (held : Held) (packets : List Packet) : Type 0 where
    pub after : Held
    pub good : IsHeld after
    pub ships : records_of after ≡ shipped (records_of held) packets
    pub durable : IsHeldOn d.honest d.reads d.may_leave new after
    pub sure : HasNotFailed d old new
    pub any_moment : TakesInTurn old new held packets

  -- one of them was not taken: those before it were, and what is held after them is what the answer is about; it is on the disk, unless
  -- the disk failed
  pub record StopsTaking (old new : D) (held : Held) (packets : List Packet) (fault : TakeFault) (entries : ℕ) : Type 0 where
    pub taken : ℕ
    pub packet : Packet
    pub at : slice_get packets taken ≡ Some packet
    pub short : FitsFourBytes packet
    pub after : Held
    pub good : IsHeld after
    pub ships : records_of after ≡ shipped (records_of held) (take taken packets)
    pub shows : TakeShows after false (d.faults old) (d.faults old) (d.faults new) (packet_bytes packet) after (Err fault)
    pub durable : is_disk_fault fault ≡ false → IsHeldOn d.honest d.reads d.may_leave new after
    pub entries_are : entries ≡ length (entries_of after)
    pub any_moment : TakesInTurn old new held packets

  -- how a command stops there
  abbrev pub StopsAtTake : D → D → Held → List Packet → Status → Type 0
  StopsAtTake old new held packets s =
      (stop : TakeFault) × (entries : ℕ) × (s ≡ status_of_taking entries stop) × StopsTaking old new held packets stop entries

-- ---- the steps

-- the follower begins
abbrev pub begin_step : StepMeaning
begin_step = record {
  passes = λ source disk old new i. HoldsRecords disk old.disk i.held;
  stops = λ source disk old new i s. (stop : OpenFault) × (s ≡ status_of_opening stop) × StopsBeginning disk old.disk new.disk stop;
  untouched = λ disk old new. new.disk ≡ old.disk;
  ready = λ source disk old new i. IsSure disk old.disk new.disk × HoldsRecords disk old.disk i.held;
}

-- the packets are read
abbrev pub packets_step : StepMeaning
packets_step = record {
  passes = λ source disk old new i. HasPackets source old.received new.received i.messages i.packets;
  stops = λ source disk old new i s. (stop : FileStop) × (s ≡ status_of_file stop) × StopsAtPackets source old.received new.received i.messages stop
      × HasNotFailed disk old.disk new.disk × IsUnwritten disk old.disk new.disk;
  untouched = λ disk old new. new.received ≡ old.received;
  ready = λ source disk old new i. TellsAll source old.received new.received i.messages × (length i.messages ≤ most_message_bytes) × ArePackets i.messages i.packets;
}

-- they are taken
abbrev pub take_step : StepMeaning
take_step = record {
  passes = λ source disk old new i. HasTaken disk old.disk new.disk i.held i.packets;
  stops = λ source disk old new i s. StopsAtTake disk old.disk new.disk i.held i.packets s;
  untouched = λ disk old new. IsUnwritten disk old.disk new.disk;
  ready = λ source disk old new i. IsSure disk old.disk new.disk × IsTakeable i.held i.packets;
}
