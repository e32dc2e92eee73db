use Rattle.std.proofs.Common.{◌≡◌, ◌<◌, length, take}
use Rattle.jrn_file.specs.inner.Sending.{IsSent, LeavesShut, StaysShut, open_frames, place_of}
use Rattle.jrn_file.proofs.filling.give_records.Given as goal

abbrev pub invariant-loop-record : goal.invariant-loop-record
invariant-loop-record g l = record {
  sent : IsSent (length l.fn.sender.buffer.items) l.fn.sender l.sender (open_frames l.head (take l.record-index l.records)) (g.D.Disk.honest l.fn.disk)
      (g.D.Disk.reads l.fn.disk) (g.D.Disk.reads l.disk) (g.D.Disk.plan l.fn.disk) (g.D.Disk.plan l.disk);
  shut : 0 < place_of l.fn.sender → LeavesShut (g.D.Disk.may_leave l.fn.disk)
      → StaysShut g.D.Disk.may_leave g.D.Disk.moment g.D.Disk.left_since l.fn.disk l.disk;
  honest : g.D.Disk.honest l.disk ≡ g.D.Disk.honest l.fn.disk;
  kept : g.D.Disk.faults l.disk ≡ g.D.Disk.faults l.fn.disk;
}
