use Rattle.pay_returns.proofs.Effects.{effects-cancel}
use Rattle.pay_returns.proofs.laws.Equality.{equal-decides}
use Rattle.pay_returns.proofs.Fits.{return-fits}
use Rattle.pay_returns.proofs.laws.Owned.{return-own}
use Rattle.pay_returns.proofs.law.return_laws.Goals as goal

pub returns-clause-cancel : goal.returns-clause-cancel
returns-clause-cancel c = effects-cancel

pub returns-clause-fits : goal.returns-clause-fits
returns-clause-fits c = return-fits

pub returns-clause-equal : goal.returns-clause-equal
returns-clause-equal c = equal-decides

pub returns-clause-own : goal.returns-clause-own
returns-clause-own c = return-own
