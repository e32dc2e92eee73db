use Rattle.std.proofs.Common.{◌≡◌, ◌<◌, ap, arith, length, subst, sym}
use Rattle.work_pool.specs.inner.Tasks.{AreReplied}
use Rattle.work_pool.proofs.Hands.{as_many, length-tasks_of, popped}
use Rattle.work_pool.proofs.hand.Hand.pop.Goals as goal

pub returns : goal.returns
returns g c =
    let jobs = c.self.inside.jobs.items in
    let replies = c.self.inside.replies.items in
    let enough = as_many jobs replies (subst AreReplied (sym c.self.view_is) c.requires.served) in
    let even : length replies ≡ length jobs = omega (arith, enough, c.self.invariant.0) in
    let some : 0 < c.self.inside.jobs.len = omega (arith, c.self.inside.jobs.ok.0, ap length c.self.view_is, length-tasks_of jobs replies, c.requires.some) in
    popped jobs c.pop.new.self.items c.pop.result replies c.pop-2.new.self.items c.in-Some.reply c.args.self.now (c.pop.ensures.variant.1 some) c.pop.ensures.items c.in-Some.ensures.items even c.self.view_is

pub unreachable-requires : goal.unreachable-requires
unreachable-requires g c =
    let jobs = c.self.inside.jobs.items in
    let replies = c.self.inside.replies.items in
    let enough = as_many jobs replies (subst AreReplied (sym c.self.view_is) c.requires.served) in
    omega (arith, enough, c.self.inside.replies.ok.0, c.in_default.ensures.cases.0, ap length c.self.view_is, length-tasks_of jobs replies, c.requires.some)
