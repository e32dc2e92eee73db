use Rattle.std.proofs.Common.{◌≤◌, length}
use Rattle.corr_disk.proofs.held_file.HeldFile.fill.Given as goal

abbrev pub invariant-loop : goal.invariant-loop
invariant-loop l = l.count ≤ length l.buf
