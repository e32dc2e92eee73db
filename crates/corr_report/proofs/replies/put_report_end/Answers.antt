use Rattle.std.proofs.lemmas.Result.{on_ok_weaker}
use Rattle.day_model.specs.Chart.{accounts_of}
use Rattle.day_model.proofs.laws.Turnovers.{debits_equal_credits}
use Rattle.corr_report.proofs.Currencies.{currencies_are}
use Rattle.corr_report.proofs.replies.put_report_end.Goals as goal

pub returns-clause-even : goal.returns-clause-even
returns-clause-even c = on_ok_weaker c.put_totals.result (λ _. debits_equal_credits c.args.a.now c.args.h.now.entries c.requires) c.put_totals.ensures

pub returns-clause-currencies : goal.returns-clause-currencies
returns-clause-currencies c = on_ok_weaker c.put_totals.result (λ _. currencies_are (accounts_of c.args.a.now)) c.put_totals.ensures
