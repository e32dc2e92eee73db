use Rattle.std.proofs.Common.{◌≤◌}
use Rattle.corr_top.proofs.Trying.{AreBookedTo}
use Rattle.corr_top.proofs.trial.are_booked.Given as goal

-- the entries so far are booked
abbrev pub invariant-loop-place : goal.invariant-loop-place
invariant-loop-place l = record {
  from_one : 1 ≤ l.place;
  booked : AreBookedTo l.place l.h.entries;
}
