use Rattle.ref_tables.proofs.laws.Charged.{file_charged}
use Rattle.ref_tables.proofs.charges.read_charges.Goals as goal

pub invariant_of-result : goal.invariant_of-result
invariant_of-result c = rw c.in_ok-by_ccy.ensures.ok.1 (file_charged c.args.t.now c.args.file.now c.in_ok-by_ccy.ensures.ok.0)

pub returns-clause-charges : goal.returns-clause-charges
returns-clause-charges c = rw c.in_ok-by_ccy.ensures.ok.1 (file_charged c.args.t.now c.args.file.now c.in_ok-by_ccy.ensures.ok.0)
