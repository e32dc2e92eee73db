use Rattle.std.proofs.Common.{◌<◌, ℕ, List, length, ap, ◌∙◌, arith}
use Rattle.std.proofs.lemmas.Result.{on_ok_weaker}
use Rattle.statement.specs.inner.Index.{changed_at, pushed}
use Rattle.statement.specs.declared.ledger.Ledger.{Ledger}
use Rattle.statement.specs.declared.movement.Movement.{Movement}
use Rattle.statement.proofs.Changes.{changed-set}
use Rattle.statement.proofs.ledger.push.Goals as goal

pub returns-clause-ok : goal.returns-clause-ok
returns-clause-ok c =
    let ledgers : List Ledger = c.args.ledgers.now.items in
    let old : Ledger = c.index_mut.result.now in
    let there : c.at.result < length ledgers = omega (arith, c.at.ensures, c.requires.there) in
    on_ok_weaker c.push.result
    (λ added.
    changed-set (pushed c.args.movement) ledgers c.at.result old (record old { movements = c.push.new.self }) there c.index_mut.ensures.value (ap (λ (ms : List Movement). record old { movements = ms }) added)
    ∙ ap (λ (k : ℕ). changed_at k (pushed c.args.movement) ledgers) c.at.ensures)
    c.push.ensures.ok
