use Rattle.desk_page.proofs.laws.Currencies.{account_once}
use Rattle.desk_page.proofs.law.each_account_once.Goals as goal

pub returns : goal.returns
returns c = account_once
