-- The amount that a message asks for may be paid.
use Rattle.corr_ids.specs.declared.bic.Bic.{Bic}
use Rattle.fin_contents.specs.Money.{IsPayable}
use Rattle.ref_tables.specs.Seen.{Tables}
use Rattle.mt103.proofs.laws.Amount.{amount-payable as transfer-payable}
use Rattle.mt202cov.proofs.laws.Amount.{amount-payable as cover-payable}
use Rattle.pay_plan.specs.declared.ask.Ask.{Ask}
use Rattle.pay_plan.specs.declared.ask.Ask.TheVariants.{Transfer, Cover}
use Rattle.pay_plan.specs.Asked.{asked_of}
use Rattle.pay_plan.specs.Readable.{IsReadBy}

pub asked-amount : (t : Tables) (home : Bic) (ask : Ask) → IsReadBy t ask → IsPayable (asked_of home ask).amount
asked-amount t home (Transfer m) is = transfer-payable t is.fields m.now is.read
asked-amount t home (Cover m) is = cover-payable t is.fields m.now is.read
