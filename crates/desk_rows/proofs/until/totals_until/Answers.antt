use Rattle.std.proofs.Common.{◌≡◌, ◌≤◌, ◌+◌, ◌-◌, ℕ, List, All, Some, length, take, sym, ap, ◌∙◌, subst, arith}
use Rattle.std.specs.Prelude.{slice_get}
use Rattle.day_model.specs.declared.entry.Entry.{Entry}
use Rattle.day_model.specs.declared.pay.Leg.{Leg}
use Rattle.day_model.specs.Chart.{accounts_of}
use Rattle.day_model.specs.Pairs.{PairsFit, pairs_with}
use Rattle.day_model.specs.Totals.{HasTotals, Pair}
use Rattle.desk_rows.specs.Until.{entries_until}
use Rattle.desk_rows.specs.inner.Until.{legs_until}
use Rattle.desk_rows.proofs.Counted.{has_next, next_fits, next_listed}
use Rattle.desk_rows.proofs.until.totals_until.Goals as goal

-- the entry at a place is the one before it, counted from 0
placed : (entries : List Entry) (i : ℕ) (e : Entry) → slice_get entries ((i + 1) - 1) ≡ Some e → slice_get entries i ≡ Some e
placed entries i e at =
    let place : (i + 1) - 1 ≡ i = omega arith in
    subst (λ (j : ℕ). slice_get entries j ≡ Some e) place at

pub add_legs-requires-clause-listed : goal.add_legs-requires-clause-listed
add_legs-requires-clause-listed c =
    let at = placed c.args.h.now.entries c.loop-at.at c.get.result.now c.get.ensures in
    let listed = next_listed c.args.until c.args.a.now c.args.h.now.entries c.get.result.now c.loop-at.at c.requires.legal at in
    subst (λ (x : List Leg × ℕ). All (λ (leg : Leg). (1 ≤ leg.account.0) × (leg.account.0 ≤ x.1)) x.0)
    (λ k. (sym c.counted_legs.ensures k, sym c.loop-at.invariant.size k)) listed

pub add_legs-requires-clause-fits : goal.add_legs-requires-clause-fits
add_legs-requires-clause-fits c =
    let pairs = c.loop-at.pairs.items in
    let at = placed c.args.h.now.entries c.loop-at.at c.get.result.now c.get.ensures in
    subst (λ (ls : List Leg). PairsFit ls pairs) (sym c.counted_legs.ensures)
    (next_fits c.args.until c.args.a.now c.args.h.now.entries c.get.result.now c.loop-at.at pairs c.requires.legal at c.loop-at.invariant)

pub loop-at-preserved : goal.loop-at-preserved
loop-at-preserved c =
    let entries = c.args.h.now.entries in
    let count = length (accounts_of c.args.a.now) in
    let pairs = c.loop-at.pairs.items in
    let e = c.get.result.now in
    let at = placed entries c.loop-at.at e c.get.ensures in
    let is : c.add_legs.new.pairs.items ≡ pairs_with (legs_until c.args.until e) pairs =
    c.add_legs.ensures ∙ ap (λ (ls : List Leg). pairs_with ls pairs) c.counted_legs.ensures in
    subst (λ (ps : List Pair). HasTotals ps count (entries_until c.args.until (take (c.loop-at.at + 1) entries))) (sym is)
    (has_next c.args.until entries e c.loop-at.at count pairs at c.loop-at.invariant)
