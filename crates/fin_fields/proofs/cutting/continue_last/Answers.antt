use Rattle.std.proofs.Common.{◌++◌, ◌∷◌, [], ap, ◌∙◌}
use Rattle.std.proofs.lemmas.Result.{on_ok_weaker}
use Rattle.fin_fields.specs.declared.field.Field.{Field}
use Rattle.fin_fields.proofs.CutSoFar.{last-continued}
use Rattle.fin_fields.proofs.cutting.continue_last.Goals as goal

pub returns-clause-added : goal.returns-clause-added
returns-clause-added c =
    on_ok_weaker c.push.result (λ pushed.
    last-continued c.pop.new.self c.args.fields.now c.push.new.self c.in-Some.last c.args.line.now c.in-Some.ensures.items
    (pushed ∙ ap (λ (last : Field). c.pop.new.self ++ last ∷ []) c.in_ok-add_known.ensures.ok)) c.push.ensures.ok
