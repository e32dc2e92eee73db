use Rattle.std.proofs.Common.{◌≡◌, drop}
use Rattle.day_model.specs.Pairs.{pairs_with}
use Rattle.acct_locks.specs.Holdings.{CanSettle, held_with}
use Rattle.acct_locks.proofs.held.Held.settle.Given as goal

abbrev pub invariant-loop-leg : goal.invariant-loop-leg
invariant-loop-leg g l = record {
  can : CanSettle (drop l.leg-index l.legs) (g.Self.Holder.held l.self);
  held : held_with (drop l.leg-index l.legs) (g.Self.Holder.held l.self) ≡ held_with l.legs (g.Self.Holder.held l.initial.self);
  pairs : pairs_with (drop l.leg-index l.legs) l.sides.pairs ≡ pairs_with l.legs l.initial.sides.pairs;
  same_table : l.sides.table ≡ l.initial.sides.table;
  count : g.Self.Holder.count l.self ≡ g.Self.Holder.count l.initial.self;
  most : g.Self.Holder.most l.self ≡ g.Self.Holder.most l.initial.self;
  table : g.Self.Holder.table l.self ≡ g.Self.Holder.table l.initial.self;
}
