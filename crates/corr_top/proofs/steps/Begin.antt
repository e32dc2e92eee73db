-- What a follower's disk holds.
use Rattle.std.proofs.Common.{sym, ◌∙◌, subst}
use Rattle.corr_top.specs.Steps.{Step}
use Rattle.corr_top.proofs.FollowedDisk.{beginning_memory, same_held}
use Rattle.corr_top.proofs.steps.Laws.{IsStop, StepLaws}
use Rattle.corr_top.proofs.steps.OpenJournal.{opening_line}

pub of_begin : StepLaws Step.begin
of_begin = record {
  agrees = λ x ready passes. same_held (x.disk.reads x.old.disk) x.read.held x.told.held (passes.told ready.0.told) (ready.1.told ready.0.told);
  memory = λ x s done after all ready stops. stops.1 ∙ beginning_memory x.disk x.old.disk x.new.disk x.told.held stops.0 ready.0 ready.1 stops.2;
  line = λ x s stops. subst IsStop (sym stops.1) (opening_line stops.0);
}
