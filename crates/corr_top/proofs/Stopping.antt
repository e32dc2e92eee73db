-- A status at which a command stopped: a line can tell it, and nothing was written.
use Rattle.std.proofs.Common.{List, [], ◌∷◌, inl, inr, refl, sym, subst}
use Rattle.corr_disk.specs.declared.disk.Disk as disks
use Rattle.corr_io.specs.declared.source.Source as sources
use Rattle.corr_top.specs.declared.room.Room.{Room}
use Rattle.corr_top.specs.declared.status.Status.{Status}
use Rattle.corr_top.specs.Ends.{HasStopped}
use Rattle.corr_top.specs.Inputs.{Inputs}
use Rattle.corr_top.specs.Meaning.{Meaning}
use Rattle.corr_top.specs.Passing.{StepIsUntouched, Passes, StopsAt}
use Rattle.corr_top.specs.Steps.{Halts, Step}
use Rattle.corr_top.proofs.steps.All.{laws_of}
use Rattle.corr_top.proofs.steps.Laws.{IsStop, Setting, memory_stop}

module _ {S K D : Type 0} (source : sources.Ghosts S) (disk : disks.Ghosts D) (old new : Room S K D) (i : Inputs) (s : Status) where
  -- what was told makes no difference here
  abbrev alone : Setting
  alone = record { S = S; K = K; D = D; source = source; disk = disk; old = old; new = new; read = i; told = i; home = refl; day = refl; change = refl; place = refl }

  pub halts_stop : (steps : List Step) → Halts (Passes source disk old new i) (StopsAt source disk old new i s) (StepIsUntouched disk old new) steps → IsStop s
  halts_stop [] halts = absurd halts
  halts_stop (step ∷ steps) (inl here) = (laws_of step).line alone s here.0
  halts_stop (step ∷ steps) (inr later) = halts_stop steps later.1

  pub stopped : (m : Meaning) → HasStopped source disk m old new s i → IsStop s
  stopped m (inl halts) = halts_stop m.steps halts
  stopped m (inr memory) = subst IsStop (sym memory.1) memory_stop
