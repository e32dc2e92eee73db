use Rattle.jrn_file.specs.File.{IsOpen}
use Rattle.calls_files.proofs.files.add_numbers.Given as goal

abbrev pub invariant-loop-number : goal.invariant-loop-number
invariant-loop-number g l = IsOpen g.D.Disk.honest g.D.Disk.reads g.D.Disk.may_leave l.file
