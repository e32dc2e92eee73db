-- A disk that a command doesn't need.
use Rattle.corr_top.specs.Steps.{Step}
use Rattle.corr_top.proofs.steps.Laws.{StepLaws}

pub of_aside : StepLaws Step.aside
of_aside = record { agrees = λ x ready passes. tt; memory = λ x s done after all ready stops. absurd stops; line = λ x s stops. absurd stops }
