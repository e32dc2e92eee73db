use Rattle.std.proofs.Common.{subst}
use Rattle.corr_disk.specs.inner.Past.{Settles}
use Rattle.corr_disk.proofs.Steps.{sync-crash}
use Rattle.corr_disk.proofs.fuse_disk.FuseDiskDisk.sync.Goals as goal

pub returns-clause-crash : goal.returns-clause-crash
returns-clause-crash c =
    let settles = subst (λ p. Settles p.steps c.sync.new.self.steps) c.in_ok-begin.ensures.past c.sync.ensures.settled in
    rw (c.sync.ensures.first, c.in_ok-begin.ensures.past) (sync-crash _ _ _ settles)
