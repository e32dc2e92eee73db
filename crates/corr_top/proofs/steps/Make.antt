-- The making of a journal.
use Rattle.std.proofs.Common.{◌≡◌, refl, sym, ◌∙◌, subst}
use Rattle.corr_disk.specs.declared.disk.Disk as disks
use Rattle.day_model.specs.Chart.{Chart}
use Rattle.jrn_file.specs.declared.fault.MakeFault.{MakeFault}
use Rattle.jrn_file.specs.declared.fault.MakeFault.TheVariants as making
use Rattle.corr_top.specs.declared.status.Status.TheVariants as status
use Rattle.corr_top.specs.Ready.{IsSure}
use Rattle.corr_top.specs.OnDisk.{IsMakeable, StopsMaking}
use Rattle.corr_top.specs.Steps.{Step}
use Rattle.corr_top.specs.Stops.{status_of_making}
use Rattle.corr_top.proofs.FaultCounts.{tells_rose}
use Rattle.corr_top.proofs.steps.Laws.{IsStop, StepLaws}

making_memory : {D : Type 0} (d : disks.Ghosts D) (old new : D) (chart : Chart) (stop : MakeFault) → IsSure d old new → IsMakeable d old → StopsMaking d old new chart stop → status_of_making stop ≡ status.Memory
making_memory d old new chart (making.Exists first) sure free stops = absurd (free sure.told first (stops.cause.1 sure.told))
making_memory d old new chart (making.Full end need) sure free stops = absurd stops.cause
making_memory d old new chart (making.DiskFault b a) sure free stops = absurd (sure.sound (tells_rose (d.faults old) b a (d.faults new) stops.cause))
making_memory d old new chart making.Memory sure free stops = refl

making_line : (stop : MakeFault) → IsStop (status_of_making stop)
making_line (making.Exists first) = record { line = tt; silent = refl }
making_line (making.Full end need) = record { line = tt; silent = refl }
making_line (making.DiskFault before after) = record { line = tt; silent = refl }
making_line making.Memory = record { line = tt; silent = refl }

pub of_make : StepLaws Step.make
of_make = record {
  agrees = λ x ready passes. tt;
  memory = λ x s done after all ready stops. stops.1 ∙ making_memory x.disk x.old.disk x.new.disk _ stops.0 ready.0 ready.1 stops.2;
  line = λ x s stops. subst IsStop (sym stops.1) (making_line stops.0);
}
