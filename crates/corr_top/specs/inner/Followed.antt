-- Packets that are taken into a second machine's journal: what they are in a file, what that leaves, and how it stops.
use Rattle.std.specs.Prelude.{◌≡◌, ◌⊎◌, ℕ, List, [], Result, Ok, Err}
use Rattle.corr_disk.specs.declared.disk.Disk as disks
use Rattle.corr_io.specs.declared.source.Source as sources
use Rattle.standby.specs.declared.answer.TakeFault.{TakeFault}
use Rattle.standby.specs.declared.packet.Packet.{Packet}
use Rattle.standby.specs.Held.{Held}
use Rattle.corr_top.specs.declared.cutting.FileStop.{FileStop}
use Rattle.corr_top.specs.declared.status.Status.{Status}
use Rattle.corr_top.specs.declared.status.Status.TheVariants as status
use Rattle.corr_top.specs.declared.writing.Texts.{Texts}
use Rattle.corr_top.specs.OnDisk.{HasNotFailed, IsUnwritten}
use Rattle.corr_top.specs.Stops.{status_of_file}
use Rattle.corr_top.specs.Followed.{HasPackets, StopsAtPackets, followed, HasTaken, StopsTaking, StopsAtTake}

module _ {D : Type 0} (d : disks.Ghosts D) where
  -- what taking them gives
  abbrev pub GivesTaken : D → D → Held → List Packet → Result (Unit {0}) (TakeFault × ℕ) → Type 0
  GivesTaken old new held packets (Ok done) = HasTaken d old new held packets
  GivesTaken old new held packets (Err stop) = StopsTaking d old new held packets stop.0 stop.1

module _ {S D : Type 0} (source : sources.Ghosts S) (d : disks.Ghosts D) (from to : S) (old new : D) (held : Held) where
  -- what the part of the command after the beginning of the follower gives: the texts, of packets that were read and taken; or the file isn't
  -- packets, and nothing was written; or one wasn't taken; or memory ran out behind the last one
  abbrev pub GivesFollowed : Result Texts Status → Type 0
  GivesFollowed (Ok texts) =
      (bytes : List ℕ) × (packets : List Packet) × HasPackets source from to bytes packets × HasTaken d old new held packets × (texts.report ≡ followed held packets) × (texts.out ≡ [])
  GivesFollowed (Err s) =
      ((stop : FileStop) × (bytes : List ℕ) × (s ≡ status_of_file stop) × StopsAtPackets source from to bytes stop × HasNotFailed d old new × IsUnwritten d old new)
      ⊎ ((bytes : List ℕ) × (packets : List Packet) × HasPackets source from to bytes packets
      × (StopsAtTake d old new held packets s ⊎ (HasTaken d old new held packets × (s ≡ status.Memory))))
