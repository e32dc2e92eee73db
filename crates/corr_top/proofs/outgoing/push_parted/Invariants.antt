use Rattle.std.proofs.Common.{◌≡◌, ◌++◌, drop}
use Rattle.corr_top.specs.Out.{parted_all}
use Rattle.corr_top.proofs.outgoing.push_parted.Given as goal

-- what is still to be added
abbrev pub invariant-loop-message : goal.invariant-loop-message
invariant-loop-message l = l.fn.out ++ parted_all l.fn.messages ≡ l.out ++ parted_all (drop l.message-index l.fn.messages)
