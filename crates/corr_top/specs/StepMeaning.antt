-- What a step of a command means, as one value.
use Rattle.corr_disk.specs.declared.disk.Disk as disks
use Rattle.corr_io.specs.declared.source.Source as sources
use Rattle.corr_top.specs.declared.room.Room.{Room}
use Rattle.corr_top.specs.declared.status.Status.{Status}
use Rattle.corr_top.specs.Inputs.{Inputs}

-- Over the objects of a room, as they were and as they are, and what was read of them: how a command passes there, since what the step reads
-- was read and is right, or what it tests holds; how it stops there with a status, for a reason that the status tells, by its cause; that
-- what the step reads or does is as it was; and that nothing is wrong with what it reads, and neither its source nor its disk failed.
pub record StepMeaning : Type 1 where
  pub passes : {S K D : Type 0} → sources.Ghosts S → disks.Ghosts D → Room S K D → Room S K D → Inputs → Type 0
  pub stops : {S K D : Type 0} → sources.Ghosts S → disks.Ghosts D → Room S K D → Room S K D → Inputs → Status → Type 0
  pub untouched : {S K D : Type 0} → disks.Ghosts D → Room S K D → Room S K D → Type 0
  pub ready : {S K D : Type 0} → sources.Ghosts S → disks.Ghosts D → Room S K D → Room S K D → Inputs → Type 0
