use Rattle.mt950.proofs.Joins.{joined-sound}
use Rattle.mt950.proofs.joining.join_pages.Goals as goal

pub returns-in-len1-up-clause-sound : goal.returns-in-len1-up-clause-sound
returns-in-len1-up-clause-sound c =
    joined-sound c.args.pages.now c.first-item.result c.join_with.result c.requires.given c.in-len1-up.len_at_least c.first-item.is c.join_with.ensures
