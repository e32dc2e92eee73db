use Rattle.std.proofs.Common.{◌≡◌, drop, false}
use Rattle.fin_blocks.proofs.Unchanged.{before, crlf_alone}
use Rattle.fin_blocks.proofs.text.has_crlf_alone.Given as goal

-- where no line feed stood alone so far, the bytes ahead are left to look at
abbrev pub invariant-loop-at : goal.invariant-loop-at
invariant-loop-at l = l.stray ≡ false → crlf_alone (before l.b l.at) (drop l.at l.b) ≡ crlf_alone 0 l.b
