use Rattle.std.proofs.Common.{◌≡◌, false, length}
use Rattle.corr_top.proofs.PacketsInTurn.{IsTaking}
use Rattle.corr_top.proofs.following.take_packets.Given as goal

-- the packets up to here were taken, whatever packets the file is
abbrev pub invariant-loop-after : goal.invariant-loop-after
invariant-loop-after g l = record {
  whole : l.follower.broken ≡ false;
  taking : IsTaking g.D.Disk l.fn.follower.disk l.follower.disk l.fn.follower.held l.follower.held l.file l.rest;
  honest : g.D.Disk.honest l.follower.disk ≡ g.D.Disk.honest l.fn.follower.disk;
}

-- the rest gets shorter
abbrev pub decreases-loop-after : goal.decreases-loop-after
decreases-loop-after g l = length l.rest
