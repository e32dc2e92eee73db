use Rattle.desk_rows.proofs.laws.Cancelling.{balances_cancel_until}
use Rattle.desk_rows.proofs.law.balances_cancel.Goals as goal

pub returns : goal.returns
returns c = balances_cancel_until
