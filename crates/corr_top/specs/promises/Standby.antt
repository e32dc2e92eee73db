-- What `follow` promises.
use Rattle.std.specs.Prelude.{ℕ, ◌≡◌, ◌+◌, Bool, true, false, IsTrue, List, [], length, slice_get, take, Some}
use Rattle.std.specs.Io.KnownBytes.{IsAtEnd}
use Rattle.corr_disk.specs.declared.disk.Disk as disks
use Rattle.corr_io.specs.declared.sink.Sink as sinks
use Rattle.corr_io.specs.declared.source.Source as sources
use Rattle.jrn_file.specs.Making.{IsUnmade}
use Rattle.standby.specs.declared.packet.Packet.{Packet}
use Rattle.standby.specs.Held.{Held, IsHeld, MayComeNext, StandsForAll, count_of, entries_of, journal, nothing, records_of}
use Rattle.standby.specs.Shipping.{AreSentBy, IsFrontOf, shipped}
use Rattle.standby.specs.Taking.{IsFull}
use Rattle.corr_top.specs.declared.room.Room.{Room}
use Rattle.corr_top.specs.declared.status.Status.{Status}
use Rattle.corr_top.specs.declared.status.Status.TheVariants.{DiskFault, Done, Full, Memory, NotNext, WriteFault}
use Rattle.corr_top.specs.Followed.{ArePackets, IsHeldOrTaken, LeavesRecords, follow_line}
use Rattle.corr_top.specs.OnDisk.{IsUnwritten}
use Rattle.corr_top.specs.promises.Books.{AtEachMoment, Keeps, Wrote, writes}

-- the statuses at which `follow` refuses a packet
abbrev pub refuses_packet : Status → Bool
refuses_packet (NotNext number) = true
refuses_packet (Full entries end need) = true
refuses_packet _ = false

-- those at which it may have taken some
abbrev pub may_take : Status → Bool
may_take Done = true
may_take (WriteFault then now) = true
may_take (DiskFault before after) = true
may_take Memory = true
may_take s = refuses_packet s

-- why a packet isn't taken where this is held: its record may not stand next, or has no room
abbrev pub IsNotTaken : Held → Packet → Status → Type 0
IsNotTaken held packet (NotNext number) = (number ≡ packet.number) × (MayComeNext held packet.body → ⊥)
IsNotTaken held packet (Full entries end need) = (entries ≡ length (entries_of held)) × MayComeNext held packet.body × IsFull held packet.body end need
IsNotTaken held packet _ = ⊥

module _ {D : Type 0} (disk : disks.Ghosts D) where
  -- what a follower holds stays as books do (`Keeps`): no record yet, where a journal may be made, or books
  abbrev pub KeepsHeld : D → Held → Type 0
  KeepsHeld d nothing = IsTrue (disk.honest d) × IsUnmade (disk.reads d) × ((image : List ℕ) → disk.may_leave d image → IsUnmade image)
  KeepsHeld d (journal chart books) = Keeps disk d chart books

  -- a disk that tells its bytes, which stand for what a follower holds; a crash may leave others
  pub record Holds (d : D) (held : Held) : Type 0 where
    pub told : IsTrue (disk.honest d)
    pub good : IsHeld held
    pub reads : StandsForAll (records_of held) (disk.reads d)

module _ {S K D : Type 0} (source : sources.Ghosts S) (sink : sinks.Ghosts K) (disk : disks.Ghosts D) (old new : Room S K D) (s : Status) where
  -- the packets of the file were taken, which was read to its end: what is held then stays on the disk, and begins with what was held; of packets of one leader, of whose records a
  -- front was held, it is such a front; the report tells how many packets there were, how many records came, and how many are held
  pub record TakesAll (file : List ℕ) (held : Held) : Type 0 where
    pub packets : List Packet
    pub are : ArePackets file packets
    pub read : IsAtEnd (source.left new.received)
    pub after : Held
    pub ships : records_of after ≡ shipped (records_of held) packets
    pub keeps : KeepsHeld disk new.disk after
    pub begins : IsFrontOf (records_of held) (records_of after)
    pub front : (leader : List (List ℕ)) → IsFrontOf (records_of held) leader → AreSentBy leader packets → IsFrontOf (records_of after) leader
    pub wrote : Wrote sink old new s (follow_line (length packets) (count_of held) (count_of after)) []

  -- one of them is refused: those ahead of it were taken, what is held then stays on the disk, and the status is the reason against the next
  pub record RefusesOne (file : List ℕ) (held : Held) : Type 0 where
    pub packets : List Packet
    pub are : ArePackets file packets
    pub taken : ℕ
    pub packet : Packet
    pub at : slice_get packets taken ≡ Some packet
    pub after : Held
    pub ships : records_of after ≡ shipped (records_of held) (take taken packets)
    pub keeps : KeepsHeld disk new.disk after
    pub next : packet.number ≡ count_of after + 1
    pub reason : IsNotTaken after packet s

  -- follow, over the bytes of its file, and what the disk holds when it begins: done, all packets are taken; or one is refused; whatever the status, a
  -- crash at any moment leaves what was held, or what is held after some of them, where it left what was held before; and at the statuses that come ahead
  -- of the first packet nothing is written to the disk
  pub record FollowPromise : Type 0 where
    pub done : (file : List ℕ) (held : Held) → source.left old.received ≡ Some file → Holds disk old.disk held → writes s ≡ true → TakesAll file held
    pub refused : (file : List ℕ) (held : Held) → source.left old.received ≡ Some file → Holds disk old.disk held → refuses_packet s ≡ true → RefusesOne file held
    pub moments : (file : List ℕ) (held : Held) → source.left old.received ≡ Some file → Holds disk old.disk held → LeavesRecords disk old.disk held
        → AtEachMoment disk old.disk new.disk (IsHeldOrTaken file held)
    pub unwritten : may_take s ≡ false → IsUnwritten disk old.disk new.disk
