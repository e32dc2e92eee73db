use Rattle.std.proofs.Common.{◌≡◌, ℕ, [], ◌∷◌, List, Some, sym, ap, ◌∙◌, subst}
use Rattle.day_model.specs.Totals.{Pair, plus, leg_pair, pair_at}
use Rattle.day_model.specs.Pairs.{pairs_with}
use Rattle.day_model.specs.inner.Pairs.{with_pair}
use Rattle.acct_locks.specs.Sides.{Sides}
use Rattle.day_model.proofs.laws.PairLists.{one_leg}
use Rattle.acct_locks.proofs.purse.Purse.add.Goals as goal

pub returns-clause-sides : goal.returns-clause-sides
returns-clause-sides c =
    let e = c.reseat.ensures in
    let it = c.args.self.now in
    let sides = c.args.sides.now in
    let leg = c.args.leg.now in
    let added = plus it.pair (leg_pair leg) in
    let totals : c.with_leg-after.result ≡ added = c.with_leg-after.ensures.value ∙ ap (λ (p : Pair). plus p (leg_pair leg)) c.totals.ensures in
    let there : pair_at sides.pairs leg.account.0 ≡ Some it.pair = subst (λ (n : ℕ). pair_at sides.pairs n ≡ Some it.pair) (sym c.requires.account) e.agreed in
    let pairs : with_pair sides.pairs it.number added ≡ pairs_with (leg ∷ []) sides.pairs =
    ap (λ (n : ℕ). with_pair sides.pairs n added) (sym c.requires.account) ∙ sym (one_leg leg sides.pairs it.pair there) in
    let book : Pair → Sides = λ q. record { table = sides.table; pairs = with_pair sides.pairs it.number q } in
    e.sides ∙ ap book totals ∙ ap (λ (ps : List Pair). record { table = sides.table; pairs = ps }) pairs
