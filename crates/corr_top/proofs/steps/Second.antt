-- The second disk.
use Rattle.std.proofs.Common.{refl, sym, subst}
use Rattle.corr_top.specs.Copied.{HasSecond}
use Rattle.corr_top.specs.Steps.{Step}
use Rattle.corr_top.proofs.steps.Laws.{IsStop, StepLaws}

pub of_second : StepLaws Step.second
of_second = record {
  agrees = λ x ready passes. tt;
  memory = λ x s done after all ready stops. absurd (subst HasSecond stops.1 ready);
  line = λ x s stops. subst IsStop (sym stops.0) (record { line = tt; silent = refl });
}
