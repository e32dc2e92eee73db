use Rattle.std.proofs.Common.{◌≡◌, true, false, List, sym, subst, rules}
use Rattle.std.specs.List.Sorted.{IsPartitionPoint}
use Rattle.std.proofs.lemmas.List.Sorted.{IsPartitionPoint-from_clause}
use Rattle.statement.specs.inner.Index.{Rise, is_of_earlier_day}
use Rattle.statement.specs.declared.movement.Movement.{Movement}
use Rattle.statement.proofs.Parted.{rise_parts}
use Rattle.statement.proofs.ledger.Ledger.earlier.Goals as goal

pub returns-clause-parted : goal.returns-clause-parted
returns-clause-parted c =
    let ms : List Movement = c.as_slice.result.now in
    let up : Rise ms = subst Rise (sym c.as_slice.ensures) c.requires in
    subst (λ (xs : List Movement). IsPartitionPoint (λ m. is_of_earlier_day c.args.day.0 m ≡ true) (λ m. is_of_earlier_day c.args.day.0 m ≡ false) xs c.partition_point.result) c.as_slice.ensures
    (IsPartitionPoint-from_clause (is_of_earlier_day c.args.day.0) ms c.partition_point.result c.partition_point.ensures.partitioned (rise_parts ms c.args.day.0 up) (λ a r f' k. search rules))
