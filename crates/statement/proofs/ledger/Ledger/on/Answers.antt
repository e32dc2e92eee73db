use Rattle.std.proofs.Common.{◌≡◌, ◌-◌, true, false, List, take, drop, ap, ◌∙◌, subst}
use Rattle.std.specs.List.Sorted.{IsPartitionPoint}
use Rattle.corr_ids.specs.declared.day.Day.{Day}
use Rattle.statement.specs.inner.Index.{is_of_earlier_day}
use Rattle.statement.specs.declared.movement.Movement.{Movement}
use Rattle.statement.proofs.Parted.{between, ordered}
use Rattle.statement.proofs.ledger.Ledger.on.Goals as goal

pub between-requires-clause-order : goal.between-requires-clause-order
between-requires-clause-order c =
    let ms : List Movement = c.args.self.now.movements in
    let last = subst (λ (d : Day). IsPartitionPoint (λ m. is_of_earlier_day d.0 m ≡ true) (λ m. is_of_earlier_day d.0 m ≡ false) ms c.earlier-2.result) c.day_after.ensures c.earlier-2.ensures.parted in
    ordered c.args.day ms c.earlier.result c.earlier-2.result c.earlier.ensures.parted last c.earlier.ensures.bound

pub returns : goal.returns
returns c =
    let ms : List Movement = c.args.self.now.movements in
    let last = subst (λ (d : Day). IsPartitionPoint (λ m. is_of_earlier_day d.0 m ≡ true) (λ m. is_of_earlier_day d.0 m ≡ false) ms c.earlier-2.result) c.day_after.ensures c.earlier-2.ensures.parted in
    c.between.ensures
    ∙ ap (λ (xs : List Movement). take (c.earlier-2.result - c.earlier.result) (drop c.earlier.result xs)) c.as_slice.ensures
    ∙ between c.args.day ms c.earlier.result c.earlier-2.result c.earlier.ensures.parted last
