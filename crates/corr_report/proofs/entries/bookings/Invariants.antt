use Rattle.std.proofs.Common.{◌≡◌, ◌-◌, take}
use Rattle.corr_report.specs.Bookings.{booking_line}
use Rattle.corr_report.specs.Lines.{numbered}
use Rattle.corr_report.proofs.entries.bookings.Given as goal

-- the lines so far
abbrev pub invariant-loop-place : goal.invariant-loop-place
invariant-loop-place l = l.out ≡ numbered (booking_line l.a) 1 (take (l.place - 1) l.h.entries)
