use Rattle.std.proofs.Common.{◌≤◌, All, length}
use Rattle.corr_top.specs.inner.Ship.{AddsDue, AreDue}
use Rattle.corr_top.proofs.records.push_due.Given as goal

-- what was added stands for the changes that are no longer left, those that are left are due, and all so far are short
abbrev pub invariant-loop-what : goal.invariant-loop-what
invariant-loop-what l = record {
  added : AddsDue l.after l.initial.records.items l.changes l.records.items l.rest;
  due : AreDue l.after l.rest;
  short : All (λ r. length r ≤ 1048576) l.records.items;
}

-- the rest gets shorter
abbrev pub decreases-loop-what : goal.decreases-loop-what
decreases-loop-what l = length l.rest
