use Rattle.corr_books.specs.inner.Meeting.{act_of}
use Rattle.corr_books.proofs.stand.publish.Given as goal

-- the entry that is published
abbrev pub ghosts-publish_as : goal.ghosts-publish_as
ghosts-publish_as g a = record { act = act_of a.pass.now.number g.P.Paid.pay a.day a.outcome }
