use Rattle.std.proofs.Common.{[], ◌∷◌, ◌++◌, refl, ap, ◌∙◌}
use Rattle.work_pool.specs.declared.server.Answer.{Answer}
use Rattle.work_pool.proofs.Going.{goes_one, goes_same}
use Rattle.work_pool.proofs.Rule.{takes_off, tells}
use Rattle.work_pool.proofs.server.serve_next.Goals as goal

pub pop_as-requires-clause-rule : goal.pop_as-requires-clause-rule
pop_as-requires-clause-rule g c = (takes_off _ _ c.requires.ready.part, tells _ _)

pub returns-in_err-reserve-clause-goes : goal.returns-in_err-reserve-clause-goes
returns-in_err-reserve-clause-goes g c = goes_same (g.K.Desk.serves c.args.desk.now) _ _ refl refl refl refl c.reserve.ensures.items refl

pub returns-clause-goes : goal.returns-clause-goes
returns-clause-goes g c =
    let answer : Answer g.row.K-Reply.Denot = record { number = c.in-Some.field-0.number; reply = c.serve-reply.result } in
    goes_one (g.K.Desk.serves c.args.desk.now) _ _ c.in-Some.field-0 answer c.in-Some.ensures.rule (c.push_reserved.ensures.items ∙ ap (λ l. l ++ answer ∷ []) c.reserve.ensures.items) refl c.serve-reply.ensures.serves
