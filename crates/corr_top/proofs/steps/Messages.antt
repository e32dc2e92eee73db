-- A file of messages.
use Rattle.std.proofs.Common.{◌≡◌, ℕ, List, [], refl, sym, ap, ◌∙◌, subst}
use Rattle.corr_io.specs.declared.source.Source as sources
use Rattle.fin_frame.specs.inner.Machine.{at_start, run, with_open}
use Rattle.fin_frame.proofs.laws.Showing.{cut-comes}
use Rattle.corr_top.specs.declared.cutting.FileStop.{FileStop}
use Rattle.corr_top.specs.declared.cutting.FileStop.TheVariants as file
use Rattle.corr_top.specs.declared.status.Status.TheVariants as status
use Rattle.corr_top.specs.Ready.{TellsAll}
use Rattle.corr_top.specs.MessageFile.{IsMessageFile, StopsCutting}
use Rattle.corr_top.specs.Passing.{HasMessages, StopsAtMessages}
use Rattle.corr_top.specs.Steps.{Step}
use Rattle.corr_top.specs.Stops.{status_of_file}
use Rattle.corr_top.proofs.FaultCounts.{same_rose}
use Rattle.corr_top.proofs.MessageFiles.{no-fault}
use Rattle.corr_top.proofs.Told.{took_whole}
use Rattle.corr_top.proofs.steps.Laws.{IsStop, StepLaws}

pub messages_memory : {S : Type 0} (source : sources.Ghosts S) (old new : S) (bytes meant : List ℕ) (cut : List (List ℕ)) (stop : FileStop) → TellsAll source old new meant → IsMessageFile meant cut → StopsAtMessages source old new bytes stop
    → status_of_file stop ≡ status.Memory
messages_memory source old new bytes meant cut (file.Fault b a) told is stops = absurd (told.sound (same_rose source.faults old new b a stops))
messages_memory source old new bytes meant cut (file.TooLarge b m) told is stops =
    let same = took_whole source.left source.faults 67108864 old new bytes meant told.told is.short stops.0 in
    ap status_of_file (no-fault meant cut (file.TooLarge b m) is (subst (λ f. StopsCutting f (file.TooLarge b m)) same stops.1))
messages_memory source old new bytes meant cut (file.Framing at) told is stops =
    let same = took_whole source.left source.faults 67108864 old new bytes meant told.told is.short stops.0 in
    ap status_of_file (no-fault meant cut (file.Framing at) is (subst (λ f. StopsCutting f (file.Framing at)) same stops.1))
messages_memory source old new bytes meant cut file.Memory told is stops = refl

-- the messages of a file that was read are those that were told
pub cut_agrees : {S : Type 0} (source : sources.Ghosts S) (old new : S) (bytes meant : List ℕ) (cut meant_cut : List (List ℕ)) → TellsAll source old new meant → IsMessageFile meant meant_cut → HasMessages source old new bytes cut → cut ≡ meant_cut
cut_agrees source old new bytes meant cut meant_cut told are had =
    let same = took_whole source.left source.faults 67108864 old new bytes meant told.told are.short had.took in
    sym (cut-comes had.are.cut).all ∙ ap (λ (f : List ℕ). with_open (run (at_start []) f).given (run (at_start []) f).held) same ∙ (cut-comes are.cut).all

pub file_line : (stop : FileStop) → IsStop (status_of_file stop)
file_line (file.Fault before after) = record { line = tt; silent = refl }
file_line (file.TooLarge bytes messages) = record { line = tt; silent = refl }
file_line (file.Framing at) = record { line = tt; silent = refl }
file_line file.Memory = record { line = tt; silent = refl }

pub of_messages : StepLaws Step.messages
of_messages = record {
  agrees = λ x ready passes. cut_agrees x.source x.old.messages x.new.messages x.read.messages x.told.messages x.read.cut x.told.cut ready.0 ready.1 passes;
  memory = λ x s done after all ready stops.
      stops.1 ∙ messages_memory x.source x.old.messages x.new.messages x.read.messages x.told.messages x.told.cut stops.0 ready.0 ready.1 stops.2;
  line = λ x s stops. subst IsStop (sym stops.1) (file_line stops.0);
}
