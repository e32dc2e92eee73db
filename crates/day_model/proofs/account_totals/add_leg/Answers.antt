use Rattle.std.proofs.Common.{◌≡◌, ◌-◌, Some, sym, ap, ◌∙◌}
use Rattle.std.specs.Prelude.{slice_set}
use Rattle.day_model.specs.Totals.{Pair, plus, leg_pair, pair_at}
use Rattle.day_model.proofs.laws.PairLists.{own_fits, pair_read, pair_written, one_leg}
use Rattle.day_model.proofs.account_totals.add_leg.Goals as goal

pub with_leg-requires : goal.with_leg-requires
with_leg-requires c =
    let pairs = c.args.pairs.now.items in
    let leg = c.args.leg.now in
    record {
      fits = own_fits leg pairs c.index.result.now c.requires.fits
          (pair_read pairs leg.account.0 c.index.result.now c.requires.listed.0 c.requires.listed.1 c.index.ensures);
    }

pub returns : goal.returns
returns c =
    let pairs = c.args.pairs.now.items in
    let leg = c.args.leg.now in
    let there : pair_at pairs leg.account.0 ≡ Some c.index.result.now =
    pair_read pairs leg.account.0 c.index.result.now c.requires.listed.0 c.requires.listed.1 c.index.ensures in
    ap (λ (q : Pair). slice_set pairs (leg.account.0 - 1) q) c.with_leg.ensures.value
    ∙ pair_written pairs leg.account.0 (plus c.index.result.now (leg_pair leg)) c.requires.listed.0
    ∙ sym (one_leg leg pairs c.index.result.now there)
