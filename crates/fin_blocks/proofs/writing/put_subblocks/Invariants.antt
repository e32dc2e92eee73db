use Rattle.std.proofs.Common.{◌≡◌, ◌++◌, take}
use Rattle.std.specs.List.{flat_map}
use Rattle.fin_blocks.specs.Sending.{subblock_text}
use Rattle.fin_blocks.proofs.writing.put_subblocks.Given as goal

-- the subblocks so far
abbrev pub invariant-loop-sub : goal.invariant-loop-sub
invariant-loop-sub l = l.out ≡ l.fn.out ++ flat_map subblock_text (take l.sub-index l.user)
