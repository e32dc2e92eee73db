use Rattle.std.proofs.Common.{◌≡◌, ◌++◌, drop}
use Rattle.corr_top.specs.Ship.{joined_all}
use Rattle.corr_top.proofs.shipping.joined.Given as goal

-- what is still to be added
abbrev pub invariant-loop-text : goal.invariant-loop-text
invariant-loop-text l = joined_all l.texts ≡ l.out ++ joined_all (drop l.text-index l.texts)
