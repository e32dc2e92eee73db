use Rattle.std.proofs.Common.{◌≡◌, ◌+◌, List, drop, sym, ap, ◌∙◌, subst, arith}
use Rattle.std.proofs.lemmas.List.{drop_all}
use Rattle.day_model.specs.declared.pay.Leg.{Leg}
use Rattle.day_model.specs.Pairs.{pairs_with}
use Rattle.acct_locks.specs.Sides.{Sides}
use Rattle.acct_locks.specs.Holdings.{Holding, CanSettle, held_with}
use Rattle.day_model.proofs.laws.PairLists.{left_at, pairs_next, pairs_with-nil}
use Rattle.acct_locks.proofs.Holdings.{next_once, next_fits, next_can, held_next, held_with-nil}
use Rattle.acct_locks.proofs.held.Held.settle.Goals as goal

pub settle_one-requires-clause-once : goal.settle_one-requires-clause-once
settle_one-requires-clause-once g c =
    let legs = c.args.legs.now in
    let at = c.loop-leg.leg-index in
    let leg = c.leg-item.result in
    let left = left_at legs at leg c.loop-leg-test.true c.leg-item.is in
    next_once (drop at legs) (drop (at + 1) legs) leg (g.Self.Holder.held c.loop-leg.self) left c.loop-leg.invariant.can

pub settle_one-requires-clause-fits : goal.settle_one-requires-clause-fits
settle_one-requires-clause-fits g c =
    let legs = c.args.legs.now in
    let at = c.loop-leg.leg-index in
    let leg = c.leg-item.result in
    let left = left_at legs at leg c.loop-leg-test.true c.leg-item.is in
    next_fits (drop at legs) (drop (at + 1) legs) leg (g.Self.Holder.held c.loop-leg.self) left c.loop-leg.invariant.can

pub loop-leg-preserved : goal.loop-leg-preserved
loop-leg-preserved g c =
    let legs = c.args.legs.now in
    let at = c.loop-leg.leg-index in
    let leg = c.leg-item.result in
    let left = left_at legs at leg c.loop-leg-test.true c.leg-item.is in
    let rest = drop (at + 1) legs in
    let held = g.Self.Holder.held c.loop-leg.self in
    let i = c.loop-leg.invariant in
    let e = c.settle_one.ensures in
    record {
      can = subst (λ (hs : List Holding). CanSettle rest hs) (sym e.held) (next_can (drop at legs) rest leg held left i.can);
      held = ap (λ (hs : List Holding). held_with rest hs) e.held ∙ held_next (drop at legs) rest leg held left i.can ∙ i.held;
      pairs = ap (λ (s : Sides). pairs_with rest s.pairs) e.sides ∙ pairs_next (drop at legs) rest leg c.loop-leg.sides.pairs left ∙ i.pairs;
      same_table = ap (λ (s : Sides). s.table) e.sides ∙ i.same_table;
      count = e.count ∙ i.count;
      most = e.most ∙ i.most;
      table = e.table ∙ i.table;
    }

pub returns-clause-held : goal.returns-clause-held
returns-clause-held g c =
    let held = g.Self.Holder.held c.loop-leg.self in
    let none = drop_all c.loop-leg.leg-index c.args.legs.now (omega (arith, c.loop-leg-test.false)) in
    sym (held_with-nil held) ∙ ap (λ (ls : List Leg). held_with ls held) (sym none) ∙ c.loop-leg.invariant.held

pub returns-clause-sides : goal.returns-clause-sides
returns-clause-sides g c =
    let i = c.loop-leg.invariant in
    let now = c.loop-leg.sides.pairs in
    let none = drop_all c.loop-leg.leg-index c.args.legs.now (omega (arith, c.loop-leg-test.false)) in
    let pairs : now ≡ pairs_with c.args.legs.now c.args.sides.now.pairs = sym (pairs_with-nil now) ∙ ap (λ (ls : List Leg). pairs_with ls now) (sym none) ∙ i.pairs in
    λ k. record { table = i.same_table k; pairs = pairs k }
