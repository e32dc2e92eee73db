-- A command that nothing stops but out of memory.
use Rattle.corr_disk.specs.declared.disk.Disk as disks
use Rattle.corr_io.specs.declared.sink.Sink as sinks
use Rattle.corr_io.specs.declared.source.Source as sources
use Rattle.corr_text.specs.Faults.{Rose}
use Rattle.corr_top.specs.declared.room.Room.{Room}
use Rattle.corr_top.specs.Inputs.{Inputs}
use Rattle.corr_top.specs.Meaning.{Meaning}
use Rattle.corr_top.specs.Passing.{IsReady}
use Rattle.corr_top.specs.Steps.{Walks}

-- nothing is wrong with what a command reads, and neither a source nor a sink nor the disk failed
pub record IsFaultless {S K D : Type 0} (source : sources.Ghosts S) (sink : sinks.Ghosts K) (disk : disks.Ghosts D) (m : Meaning) (old new : Room S K D) (i : Inputs) : Type 0 where
  pub are_for : m.is_for i
  pub ready : Walks (IsReady source disk old new i) m.steps
  pub report : Rose (sink.faults old.report) (sink.faults new.report) → ⊥
  pub out : Rose (sink.faults old.out) (sink.faults new.out) → ⊥
