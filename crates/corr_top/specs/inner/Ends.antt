-- How a command ends, by what it means.
use Rattle.std.specs.Prelude.{◌≡◌, Result, Ok, Err}
use Rattle.corr_disk.specs.declared.disk.Disk as disks
use Rattle.corr_io.specs.declared.source.Source as sources
use Rattle.corr_top.specs.declared.room.Room.{Room}
use Rattle.corr_top.specs.declared.status.Status.{Status}
use Rattle.corr_top.specs.declared.writing.Texts.{Texts}
use Rattle.corr_top.specs.Inputs.{Inputs}
use Rattle.corr_top.specs.Meaning.{KeepsRest, Meaning}
use Rattle.corr_top.specs.Ends.{HasPassed, HasStopped}

module _ {S K D : Type 0} (source : sources.Ghosts S) (disk : disks.Ghosts D) (m : Meaning) (old new : Room S K D) where
  -- before anything is written: the texts of a command that passed, and whose messages are valid, or the status of one that
  -- stopped; the sinks are as they were
  abbrev pub CommandGives : Result Texts Status → Inputs → Type 0
  CommandGives (Ok texts) i = HasPassed source disk m old new i × (texts.report ≡ m.report i) × (texts.out ≡ m.out i) × m.valid i
  CommandGives (Err stop) i = HasStopped source disk m old new stop i

  -- what a command made of what it read, and what it left beside the sinks
  pub record HasTexts (texts : Result Texts Status) : Type 0 where
    pub inputs : Inputs
    pub are_for : m.is_for inputs
    pub gives : CommandGives texts inputs
    pub rest : KeepsRest m.steps old new
    pub report : new.report ≡ old.report
    pub out : new.out ≡ old.out
