use Rattle.std.proofs.Common.{map}
use Rattle.fin_blocks.proofs.Distinct.{IsMarked}
use Rattle.fin_blocks.proofs.user.are_many_distinct.Given as goal

-- the numbers passed are those seen, and no two of them are equal
abbrev pub invariant-loop-sub : goal.invariant-loop-sub
invariant-loop-sub l = IsMarked l.seen (map (λ s. s.0) l.user) l.sub-index
