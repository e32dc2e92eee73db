use Rattle.std.proofs.Common.{◌∙◌, ap, length, sym}
use Rattle.day_model.specs.declared.entry.Outcome.{Outcome}
use Rattle.jrn_codec.specs.Record.{outcome_bytes}
use Rattle.jrn_codec.proofs.Lengths.{unfunded_long}
use Rattle.jrn_codec.proofs.length.outcome_len.Goals as goal

pub returns-in-Unfunded-clause-len : goal.returns-in-Unfunded-clause-len
returns-in-Unfunded-clause-len c =
    sym (ap (λ (o : Outcome). length (outcome_bytes o)) c.in-Unfunded.is ∙ unfunded_long c.in-Unfunded.leg c.in-Unfunded.balance)
