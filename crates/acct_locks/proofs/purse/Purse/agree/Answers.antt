use Rattle.std.proofs.Common.{List, ap, ◌∙◌}
use Rattle.day_model.specs.Totals.{Pair}
use Rattle.day_model.specs.inner.Pairs.{with_pair}
use Rattle.acct_locks.specs.Sides.{Sides}
use Rattle.acct_locks.specs.Holdings.{Holding}
use Rattle.acct_locks.proofs.Places.{pair_same}
use Rattle.acct_locks.proofs.purse.Purse.agree.Goals as goal

pub returns-clause-same : goal.returns-clause-same
returns-clause-same c =
    let e = c.reseat.ensures in
    let it = c.args.self.now in
    let sides = c.args.sides.now in
    let purse : Pair → Holding = λ q. record { table = it.table; number = it.number; pair = q } in
    let book : Pair → Sides = λ q. record { table = sides.table; pairs = with_pair sides.pairs it.number q } in (
      e.purse ∙ ap purse c.totals-totals.ensures,
      e.sides ∙ ap book c.totals-totals.ensures ∙ ap (λ (ps : List Pair). record { table = sides.table; pairs = ps }) (pair_same sides.pairs it.number it.pair e.agreed),
    )
