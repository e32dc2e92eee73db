use Rattle.std.proofs.Common.{sym, subst}
use Rattle.pay_returns.specs.inner.Opposite.{AreListed}
use Rattle.pay_returns.proofs.Fits.{legs-listed}
use Rattle.pay_returns.proofs.chain.takes_back.Goals as goal

pub notices_of-notices-requires-clause-listed : goal.notices_of-notices-requires-clause-listed
notices_of-notices-requires-clause-listed c = subst (AreListed c.args.a.now) (sym c.as_slice.ensures) (legs-listed c.args.a.now c.args.pay.now.legs c.requires)
