use Rattle.fin_layout.proofs.Noted.{noted-more}
use Rattle.fin_layout.proofs.found.Found.push.Goals as goal

pub invariant_of-self-2 : goal.invariant_of-self-2
invariant_of-self-2 c = rw c.in_ok-push.ensures.items (noted-more c.args.at c.self.invariant c.note.ensures)
