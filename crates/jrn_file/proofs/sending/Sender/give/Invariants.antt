use Rattle.std.proofs.Common.{◌≡◌, ◌≤◌, ◌<◌, ◌-◌, length, take}
use Rattle.jrn_file.specs.inner.Sending.{IsSent, LeavesShut, StaysShut, place_of}
use Rattle.jrn_file.proofs.sending.Sender.give.Given as goal

abbrev pub invariant-loop-given : goal.invariant-loop-given
invariant-loop-given g l = record {
  within : l.given ≤ length l.bytes;
  sent : IsSent (length l.fn.self.buffer.items) l.fn.self l.self (take l.given l.bytes) (g.D.Disk.honest l.fn.disk) (g.D.Disk.reads l.fn.disk)
      (g.D.Disk.reads l.disk) (g.D.Disk.plan l.fn.disk) (g.D.Disk.plan l.disk);
  shut : 0 < place_of l.fn.self → LeavesShut (g.D.Disk.may_leave l.fn.disk)
      → StaysShut g.D.Disk.may_leave g.D.Disk.moment g.D.Disk.left_since l.fn.disk l.disk;
  honest : g.D.Disk.honest l.disk ≡ g.D.Disk.honest l.fn.disk;
  kept : g.D.Disk.faults l.disk ≡ g.D.Disk.faults l.fn.disk;
}

abbrev pub decreases-loop-given : goal.decreases-loop-given
decreases-loop-given g l = length l.bytes - l.given
