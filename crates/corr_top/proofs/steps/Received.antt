-- The messages that came in.
use Rattle.std.proofs.Common.{sym, ◌∙◌, subst}
use Rattle.corr_top.specs.Steps.{Step}
use Rattle.corr_top.proofs.steps.Laws.{IsStop, StepLaws}
use Rattle.corr_top.proofs.steps.Messages.{cut_agrees, file_line, messages_memory}

pub of_received : StepLaws Step.received
of_received = record {
  agrees = λ x ready passes. cut_agrees x.source x.old.received x.new.received x.read.messages x.told.messages x.read.cut x.told.cut ready.0 ready.1 passes;
  memory = λ x s done after all ready stops.
      stops.1 ∙ messages_memory x.source x.old.received x.new.received x.read.messages x.told.messages x.told.cut stops.0 ready.0 ready.1 stops.2;
  line = λ x s stops. subst IsStop (sym stops.1) (file_line stops.0);
}
