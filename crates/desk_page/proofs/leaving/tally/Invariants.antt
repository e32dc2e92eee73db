use Rattle.std.proofs.Common.{◌≡◌, take}
use Rattle.desk_page.specs.Leaving.{is_same_kind}
use Rattle.desk_page.specs.Tally.{tally_of}
use Rattle.desk_page.proofs.leaving.tally.Given as goal

-- the tally of the kinds so far
abbrev pub invariant-loop-kind : goal.invariant-loop-kind
invariant-loop-kind l = l.counts.entries ≡ tally_of is_same_kind (take l.kind-index l.kinds)
