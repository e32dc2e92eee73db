use Rattle.std.proofs.Common.{rules, sym, ap, ◌∙◌, nat_lt, option_map}
use Rattle.std.specs.Option.{option_copied}
use Rattle.std.proofs.lemmas.List.Sorted.{IsPartitionPoint-from_clause}
use Rattle.statement.specs.Running.{placed_by}
use Rattle.reconcile.proofs.Printed.{entry-here, entry-none, entry-other, places-parted}
use Rattle.reconcile.proofs.lines.entry_at.Goals as goal

pub returns-in_err-entry-clause-value : goal.returns-in_err-entry-clause-value
returns-in_err-entry-clause-value c =
    let entries = c.args.entries.now in
    let k = c.partition_point-at.result in
    let parts =
    IsPartitionPoint-from_clause (λ m. nat_lt m.place c.args.place) entries k c.partition_point-at.ensures.partitioned (places-parted entries c.args.place c.requires) (λ a r f' w. search rules) in
    ap (λ o. option_map placed_by (option_copied o)) c.from_residual.ensures ∙ sym (entry-none entries c.args.place k c.requires parts c.in_err-entry.ensures.lookup.3)

pub returns-then-entry-place-clause-value : goal.returns-then-entry-place-clause-value
returns-then-entry-place-clause-value c =
    let entries = c.args.entries.now in
    let k = c.partition_point-at.result in
    let parts =
    IsPartitionPoint-from_clause (λ m. nat_lt m.place c.args.place) entries k c.partition_point-at.ensures.partitioned (places-parted entries c.args.place c.requires) (λ a r f' w. search rules) in
    sym (entry-other entries c.args.place k c.requires parts c.in_ok-entry.entry.now c.in_ok-entry.ensures.lookup.1 c.in_ok-entry.ensures.lookup.3.0 c.if-entry-place.true)

pub returns-clause-value : goal.returns-clause-value
returns-clause-value c =
    let entries = c.args.entries.now in
    let k = c.partition_point-at.result in
    let parts =
    IsPartitionPoint-from_clause (λ m. nat_lt m.place c.args.place) entries k c.partition_point-at.ensures.partitioned (places-parted entries c.args.place c.requires) (λ a r f' w. search rules) in
    sym (entry-here entries c.args.place k c.requires parts c.in_ok-entry.entry.now c.in_ok-entry.ensures.lookup.1 c.in_ok-entry.ensures.lookup.3.0 c.if-entry-place.false)
