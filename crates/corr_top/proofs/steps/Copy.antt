-- The making of a copy on the second disk.
use Rattle.std.proofs.Common.{◌≡◌, ℕ, ◌≤◌, List, length, Option, Some, None, refl, sym, ◌∙◌, subst, arith}
use Rattle.corr_disk.specs.declared.disk.Disk as disks
use Rattle.corr_disk.specs.Disk.{most_disk_bytes}
use Rattle.day_model.specs.declared.entry.Entry.{Entry}
use Rattle.day_model.specs.Chart.{Chart}
use Rattle.jrn_book.specs.Journal.{file_of}
use Rattle.jrn_file.specs.declared.fault.MakeFault.{MakeFault}
use Rattle.jrn_file.specs.declared.fault.MakeFault.TheVariants as making
use Rattle.corr_top.specs.declared.status.Status.TheVariants as status
use Rattle.corr_top.specs.Ready.{IsSure}
use Rattle.corr_top.specs.Copied.{OnSecond, StopsCopying}
use Rattle.corr_top.specs.OnDisk.{IsMakeable}
use Rattle.corr_top.specs.Steps.{Step}
use Rattle.corr_top.specs.Stops.{status_of_copying}
use Rattle.corr_top.proofs.FaultCounts.{tells_rose}
use Rattle.corr_top.proofs.Walking.{walked}
use Rattle.corr_top.proofs.steps.Laws.{Agrees, IsStop, StepLaws}

copy_memory : {D : Type 0} (d : disks.Ghosts D) (from to : Option D) (chart : Chart) (history : List Entry) (stop : MakeFault) → OnSecond (λ a b. IsSure d a b × IsMakeable d a) from to
    → length (file_of chart history) ≤ most_disk_bytes → OnSecond (λ a b. StopsCopying d a b chart history stop) from to → status_of_copying (length history) stop ≡ status.Memory
copy_memory d (Some a) (Some b) chart history (making.Exists first) ready room stops = absurd (ready.1 ready.0.told first (stops.cause.1 ready.0.told))
copy_memory d (Some a) (Some b) chart history (making.Full end need) ready room stops =
    let past = stops.cause.1.past in
    let at = stops.cause.1.end_is in
    let more = stops.cause.1.need_is in
    absurd (omega (arith, past, at, more, room))
copy_memory d (Some a) (Some b) chart history (making.DiskFault then now) ready room stops = absurd (ready.0.sound (tells_rose (d.faults a) then now (d.faults b) stops.cause))
copy_memory d (Some a) (Some b) chart history making.Memory ready room stops = refl
copy_memory d (Some a) None chart history stop ready room stops = absurd stops
copy_memory d None to chart history stop ready room stops = absurd stops

copy_line : (entries : ℕ) (stop : MakeFault) → IsStop (status_of_copying entries stop)
copy_line entries (making.Exists first) = record { line = tt; silent = refl }
copy_line entries (making.Full end need) = record { line = tt; silent = refl }
copy_line entries (making.DiskFault before after) = record { line = tt; silent = refl }
copy_line entries making.Memory = record { line = tt; silent = refl }

pub of_copy : StepLaws Step.copy
of_copy = record {
  agrees = λ x ready passes. tt;
  memory = λ x s done after all ready stops.
      let journal = walked (Agrees x.read x.told) done Step.old_journal all after in
      let room = subst (λ (v : List Entry × Chart). length (file_of v.1 v.0) ≤ most_disk_bytes) (λ k. (sym journal.history k, sym journal.chart k)) ready.1 in
      stops.1 ∙ copy_memory x.disk x.old.disk2 x.new.disk2 x.read.chart x.read.history stops.0 ready.0 room stops.2;
  line = λ x s stops. subst IsStop (sym stops.1) (copy_line (length x.read.history) stops.0);
}
