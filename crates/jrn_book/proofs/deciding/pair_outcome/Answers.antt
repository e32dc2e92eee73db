use Rattle.std.proofs.Common.{◌∙◌, ℕ, ◌≤◌, subst, sym}
use Rattle.day_model.specs.Totals.{totals_of}
use Rattle.jrn_book.proofs.ByTotals.{pair_here, small_by, test_by}
use Rattle.jrn_book.proofs.deciding.pair_outcome.Goals as goal

pub leg_outcome-requires-clause-small : goal.leg_outcome-requires-clause-small
leg_outcome-requires-clause-small c =
    let n = c.args.leg.now.account.0 in
    let entries = c.requires.past.0 in
    let legal = c.requires.past.1 in
    let totals = c.requires.past.2 in
    let listed = c.requires.sound.listed in
    let high : n ≤ _ = subst (λ (m : ℕ). n ≤ m) (sym totals.size) listed.1 in
    small_by c.args.a.now entries n _ (pair_here c.args.pairs.now n (totals_of n entries) listed.0 high (totals.each n listed.0 listed.1)) c.requires.chart legal listed

pub returns : goal.returns
returns c = record {
  value = λ entries legal totals.
      let n = c.args.leg.now.account.0 in
      let listed = c.requires.sound.listed in
      let high : n ≤ _ = subst (λ (m : ℕ). n ≤ m) (sym totals.size) listed.1 in
      let is = pair_here c.args.pairs.now n (totals_of n entries) listed.0 high (totals.each n listed.0 listed.1) in
      c.leg_outcome.ensures.value ∙ test_by c.args.a.now entries c.args.leg.now _ c.args.number legal.changes.by_now is;
}
