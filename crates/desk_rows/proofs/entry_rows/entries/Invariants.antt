use Rattle.std.proofs.Common.{◌≡◌, ◌-◌, ◌++◌, take}
use Rattle.corr_report.specs.Lines.{numbered}
use Rattle.desk_rows.specs.Entries.{entry_header, row_between}
use Rattle.desk_rows.proofs.entry_rows.entries.Given as goal

-- the rows so far
abbrev pub invariant-loop-place : goal.invariant-loop-place
invariant-loop-place l = l.out ≡ entry_header ++ numbered (row_between l.a l.fn.from l.fn.until) 1 (take (l.place - 1) l.h.entries)
