use Rattle.std.proofs.Common.{sym}
use Rattle.fin_message.proofs.judging.read_of_type.Goals as goal

pub returns-in-900 : goal.returns-in-900
returns-in-900 c = rw (sym c.type_of.ensures, c.in-900.is) c.read_debit.ensures

pub returns-in-910 : goal.returns-in-910
returns-in-910 c = rw (sym c.type_of.ensures, c.in-910.is) c.read_credit.ensures
