use Rattle.std.proofs.Common.{◌<◌, ℕ, List, length, ap, ◌∙◌, arith}
use Rattle.statement.specs.inner.Index.{changed_at, undone}
use Rattle.statement.specs.declared.ledger.Ledger.{Ledger}
use Rattle.statement.specs.declared.movement.Movement.{Movement}
use Rattle.statement.proofs.Changes.{changed-set}
use Rattle.statement.proofs.ledger.undo.Goals as goal

pub returns : goal.returns
returns c =
    let ledgers : List Ledger = c.args.ledgers.now.items in
    let old : Ledger = c.index_mut.result.now in
    let there : c.at.result < length ledgers = omega (arith, c.at.ensures, c.requires.there) in
    changed-set undone ledgers c.at.result old (record old { movements = c.undo.new.self }) there c.index_mut.ensures.value (ap (λ (ms : List Movement). record old { movements = ms }) c.undo.ensures)
    ∙ ap (λ (k : ℕ). changed_at k undone ledgers) c.at.ensures
