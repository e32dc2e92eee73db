use Rattle.ref_tables.proofs.laws.Numbers.{written-short}
use Rattle.corr_top.proofs.words.magnitude.Goals as goal

pub returns-clause-short : goal.returns-clause-short
returns-clause-short c = written-short c.args.b.now c.digits.result c.if-b-gt15.false c.digits.ensures
