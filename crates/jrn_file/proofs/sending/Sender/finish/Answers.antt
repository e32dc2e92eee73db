use Rattle.jrn_file.proofs.Shut.{shut-start, shut-write}
use Rattle.jrn_file.proofs.sending.Sender.finish.Goals as goal

pub returns-in_err-write_at-clause-shut : goal.returns-in_err-write_at-clause-shut
returns-in_err-write_at-clause-shut g c after shut =
    let D = g.D.Disk in
    let old = c.args.disk.now in
    shut-write D.may_leave D.moment D.left_since g.met.D.Disk.only_now old old c.write_at.new.self c.args.self.now.at _ after
    (shut-start D.may_leave D.moment D.left_since g.met.D.Disk.only_now old shut) c.write_at.ensures.crash c.write_at.ensures.time

pub returns-in_ok-write_at-clause-shut : goal.returns-in_ok-write_at-clause-shut
returns-in_ok-write_at-clause-shut g c after shut =
    let D = g.D.Disk in
    let old = c.args.disk.now in
    shut-write D.may_leave D.moment D.left_since g.met.D.Disk.only_now old old c.write_at.new.self c.args.self.now.at _ after
    (shut-start D.may_leave D.moment D.left_since g.met.D.Disk.only_now old shut) c.write_at.ensures.crash c.write_at.ensures.time
