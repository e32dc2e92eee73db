-- The packets of a received file.
use Rattle.std.proofs.Common.{ℕ, List, sym, ◌∙◌, subst}
use Rattle.corr_top.specs.Followed.{ArePackets}
use Rattle.corr_top.specs.Steps.{Step}
use Rattle.corr_top.proofs.FollowedDisk.{one_cut, packets_memory}
use Rattle.corr_top.proofs.Told.{took_whole}
use Rattle.corr_top.proofs.steps.Laws.{IsStop, StepLaws}
use Rattle.corr_top.proofs.steps.Messages.{file_line}

pub of_packets : StepLaws Step.packets
of_packets = record {
  agrees = λ x ready passes.
      let same = took_whole x.source.left x.source.faults 67108864 x.old.received x.new.received x.read.messages x.told.messages ready.0.told ready.1 passes.file.took in
      one_cut x.told.messages x.read.packets x.told.packets (subst (λ (b : List ℕ). ArePackets b x.read.packets) same passes.are) ready.2;
  memory = λ x s done after all ready stops.
      stops.1 ∙ packets_memory x.source x.old.received x.new.received x.read.messages x.told.messages x.told.packets stops.0 ready.0 ready.1 ready.2 stops.2;
  line = λ x s stops. subst IsStop (sym stops.1) (file_line stops.0);
}
