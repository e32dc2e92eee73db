-- How a command ends, by what it means.
use Rattle.std.specs.Prelude.{ℕ, ◌≡◌, ◌⊎◌}
use Rattle.corr_disk.specs.declared.disk.Disk as disks
use Rattle.corr_io.specs.declared.sink.Sink as sinks
use Rattle.corr_io.specs.declared.source.Source as sources
use Rattle.corr_top.specs.declared.room.Room.{Room}
use Rattle.corr_top.specs.declared.status.Status.{Status}
use Rattle.corr_top.specs.declared.status.Status.TheVariants as status
use Rattle.corr_top.specs.Inputs.{Inputs}
use Rattle.corr_top.specs.Meaning.{KeepsRest, Meaning}
use Rattle.corr_top.specs.Passing.{StepIsUntouched, Passes, StopsAt}
use Rattle.corr_top.specs.Steps.{Halts, Walks}
use Rattle.corr_top.specs.Writing.{FailsWriting, Received}

module _ {S K D : Type 0} (source : sources.Ghosts S) (disk : disks.Ghosts D) (m : Meaning) (old new : Room S K D) where
  -- each step passed, and the disk is as the command leaves it
  pub record HasPassed (i : Inputs) : Type 0 where
    pub passed : Walks (Passes source disk old new i) m.steps
    pub leaves : m.leaves D disk old.disk new.disk i

  -- the first step that didn't pass stopped it, or memory ran out after the last one
  abbrev pub HasStopped : Status → Inputs → Type 0
  HasStopped stop i =
      Halts (Passes source disk old new i) (StopsAt source disk old new i stop) (StepIsUntouched disk old new) m.steps
      ⊎ (HasPassed i × (stop ≡ status.Memory))

  -- Done: all was read and found right, what is sent is valid, and both texts were received whole
  pub record EndsDone (sink : sinks.Ghosts K) (s : Status) (i : Inputs) : Type 0 where
    pub status_is : s ≡ status.Done
    pub passed : HasPassed i
    pub valid : m.valid i
    pub report : Received sink.held sink.faults old.report new.report (m.report i)
    pub out : Received sink.held sink.faults old.out new.out (m.out i)

  -- WriteFault: all was read and found right, and a sink failed: the report was received in part and nothing was sent, or the
  -- report whole and the outgoing messages in part
  pub record EndsWriting (sink : sinks.Ghosts K) (s : Status) (i : Inputs) : Type 0 where
    pub then : ℕ
    pub now : ℕ
    pub status_is : s ≡ status.WriteFault then now
    pub passed : HasPassed i
    pub valid : m.valid i
    pub failed : FailsWriting sink.held sink.faults old.report new.report (m.report i) old.out new.out (m.out i) then now

  -- else: it stopped, and the sinks are as they were
  pub record EndsStopped (s : Status) (i : Inputs) : Type 0 where
    pub stopped : HasStopped s i
    pub report : new.report ≡ old.report
    pub out : new.out ≡ old.out

  -- each status by its cause, over what was read
  pub record Ends (sink : sinks.Ghosts K) (s : Status) : Type 0 where
    pub inputs : Inputs
    pub are_for : m.is_for inputs
    pub ends : EndsDone sink s inputs ⊎ (EndsWriting sink s inputs ⊎ EndsStopped s inputs)
    pub rest : KeepsRest m.steps old new
