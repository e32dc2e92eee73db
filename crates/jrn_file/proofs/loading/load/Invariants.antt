use Rattle.std.proofs.Common.{◌≡◌, ◌+◌, ◌*◌}
use Rattle.corr_disk.specs.Calls.{CallsMade}
use Rattle.corr_disk.specs.Disk.{Only}
use Rattle.jrn_file.specs.inner.Opening.{HasNoRecord, IsShut}
use Rattle.jrn_file.specs.Untouched.{IsUntouched}
use Rattle.jrn_file.proofs.ReadTo.{ReadTo}
use Rattle.jrn_file.proofs.loading.load.Given as goal

abbrev pub invariant-loop-index : goal.invariant-loop-index
invariant-loop-index g l = record {
  read : ReadTo (g.D.Disk.honest l.fn.disk) (g.D.Disk.reads l.fn.disk) (l.index * l.piece) l.records.items l.held;
  stopped : HasNoRecord l.held;
  open_gate : IsShut l.held → ⊥;
  untouched : IsUntouched g.D.Disk.reads g.D.Disk.may_leave g.D.Disk.moment g.D.Disk.left_since l.fn.disk l.disk;
  durable : Only (g.D.Disk.reads l.disk) (g.D.Disk.may_leave l.disk);
  honest : g.D.Disk.honest l.disk ≡ g.D.Disk.honest l.fn.disk;
  kept : g.D.Disk.faults l.disk ≡ g.D.Disk.faults l.fn.disk;
  calls : CallsMade (1 + l.index) (g.D.Disk.plan l.fn.disk) (g.D.Disk.plan l.disk);
}
