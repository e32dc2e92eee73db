use Rattle.advices.proofs.laws.Credits.{credit-passes}
use Rattle.advices.proofs.laws.Debits.{debit-passes}
use Rattle.advices.proofs.law.sent_messages_pass.Goals as goal

pub returns-clause-debit : goal.returns-clause-debit
returns-clause-debit c = debit-passes

pub returns-clause-credit : goal.returns-clause-credit
returns-clause-credit c = credit-passes
