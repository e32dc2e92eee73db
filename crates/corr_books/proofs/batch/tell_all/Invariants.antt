use Rattle.std.proofs.Common.{get_or}
use Rattle.front_word.specs.inner.Blank.{blank_pay}
use Rattle.corr_books.proofs.Telling.{HasTold}
use Rattle.corr_books.proofs.batch.tell_all.Given as goal

-- the answers so far were told
abbrev pub invariant-loop-at : goal.invariant-loop-at
invariant-loop-at g l = HasTold l.day l.initial.w l.initial.pass g.B.Batch.pays l.answers l.at l.w l.pass

-- the pay that was answered
abbrev pub ghosts-tell : goal.ghosts-tell
ghosts-tell g a = record { pay = get_or g.B.Batch.pays a.of.now blank_pay }
