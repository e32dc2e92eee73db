use Rattle.std.proofs.Common.{rules}
use Rattle.std.proofs.lemmas.List.Sorted.{IsPartitionPoint-from_clause}
use Rattle.ssi_versions.specs.inner.Index.{has_begun, holds_at}
use Rattle.ssi_versions.proofs.Order.{parted}
use Rattle.ssi_versions.proofs.index.begun_by.Goals as goal

pub returns-clause-point : goal.returns-clause-point
returns-clause-point c =
    IsPartitionPoint-from_clause (holds_at (has_begun c.args.day) c.args.rows.now) c.args.places.now c.partition_point.result c.partition_point.ensures.partitioned
    (parted c.args.rows.now c.args.places.now c.requires c.args.day) (λ a r f' k. search rules)
