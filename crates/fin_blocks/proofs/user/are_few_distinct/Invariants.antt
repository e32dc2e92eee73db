use Rattle.std.proofs.Common.{◌≡◌, drop, map, take}
use Rattle.fin_blocks.specs.User.{are_distinct, differ_from}
use Rattle.fin_blocks.proofs.user.are_few_distinct.Given as goal

-- no two of the numbers passed are equal
abbrev pub invariant-loop-at : goal.invariant-loop-at
invariant-loop-at l = are_distinct (map (λ s. s.0) l.user) ≡ differ_from (take l.at (map (λ s. s.0) l.user)) (drop l.at (map (λ s. s.0) l.user))
