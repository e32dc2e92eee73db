use Rattle.std.proofs.Common.{subst}
use Rattle.day_model.specs.Chart.{IsChart}
use Rattle.corr_books.proofs.books.Books.accounts.Goals as goal

pub returns-clause-sound : goal.returns-clause-sound
returns-clause-sound g c = subst IsChart c.args.self.now.accounts_are c.count-count.ensures.sound
