-- The file of messages that leave.
use Rattle.std.proofs.Common.{◌≡◌, ℕ, ◌≤◌, List, length, refl, sym, ap, ◌∙◌, subst, arith}
use Rattle.corr_io.specs.declared.source.Source as sources
use Rattle.corr_top.specs.declared.cutting.FileStop.{FileStop}
use Rattle.corr_top.specs.declared.cutting.FileStop.TheVariants as file
use Rattle.corr_top.specs.declared.status.Status.TheVariants as status
use Rattle.corr_top.specs.Ready.{TellsAll}
use Rattle.corr_top.specs.Passing.{StopsAtSent, most_sent_bytes}
use Rattle.corr_top.specs.Steps.{Step}
use Rattle.corr_top.specs.Stops.{status_of_file}
use Rattle.corr_top.proofs.FaultCounts.{same_rose}
use Rattle.corr_top.proofs.Told.{took_whole}
use Rattle.corr_top.proofs.steps.Laws.{IsStop, StepLaws}
use Rattle.corr_top.proofs.steps.Messages.{file_line}

sent_memory : {S : Type 0} (source : sources.Ghosts S) (old new : S) (bytes meant : List ℕ) (stop : FileStop) → TellsAll source old new meant → length meant ≤ most_sent_bytes → StopsAtSent source old new bytes stop
    → status_of_file stop ≡ status.Memory
sent_memory source old new bytes meant (file.Fault b a) told short stops = absurd (told.sound (same_rose source.faults old new b a stops))
sent_memory source old new bytes meant (file.TooLarge b m) told short stops =
    let size : length bytes ≡ length meant = ap length (took_whole source.left source.faults most_sent_bytes old new bytes meant told.told short stops.took) in
    let past = stops.past in
    absurd (omega (arith, size, past, short))
sent_memory source old new bytes meant (file.Framing at) told short stops = absurd stops
sent_memory source old new bytes meant file.Memory told short stops = refl

pub of_sent : StepLaws Step.sent
of_sent = record {
  agrees = λ x ready passes. tt;
  memory = λ x s done after all ready stops. stops.1 ∙ sent_memory x.source x.old.sent x.new.sent x.read.messages x.told.messages stops.0 ready.0 ready.1 stops.2;
  line = λ x s stops. subst IsStop (sym stops.1) (file_line stops.0);
}
