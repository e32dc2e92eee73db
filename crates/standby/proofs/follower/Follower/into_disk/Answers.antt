use Rattle.std.proofs.Common.{◌≡◌, false, subst, sym}
use Rattle.standby.specs.Following.{Following, disk_in}
use Rattle.standby.specs.Held.{IsOnDisk}
use Rattle.standby.proofs.Kept.{kept-on_disk}
use Rattle.standby.proofs.follower.Follower.into_disk.Goals as goal

pub returns-clause-stands : goal.returns-clause-stands
returns-clause-stands g c =
    let D = g.D.Disk in
    subst (λ d. c.args.self.broken ≡ false → IsOnDisk D.honest D.reads D.may_leave d c.args.self.held) (sym c.into_disk.ensures)
    (subst (λ (f : Following g.row.D.Denot). f.broken ≡ false → IsOnDisk D.honest D.reads D.may_leave (disk_in c.self.inside.place) f.held) c.self.view_is
    (λ whole. kept-on_disk D.honest D.reads D.may_leave c.self.inside.place (c.self.invariant.kept whole)))
