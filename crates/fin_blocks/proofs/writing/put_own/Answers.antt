use Rattle.std.proofs.Common.{append_assoc}
use Rattle.fin_blocks.proofs.writing.put_own.Goals as goal

pub returns : goal.returns
returns c = simp append_assoc (simp append_assoc at (rw (c.in_ok-put_terminal.ensures, c.in_ok-push.ensures.ok) at c.push-2.ensures.ok))
