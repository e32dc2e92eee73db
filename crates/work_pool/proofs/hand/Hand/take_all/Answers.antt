use Rattle.std.proofs.Common.{◌≡◌, List, ap, arith, length, subst, sym, ◌∙◌}
use Rattle.std.specs.List.{slice_get}
use Rattle.work_pool.specs.inner.Hands.{Task}
use Rattle.work_pool.specs.inner.Tasks.{AreReplied, reply_of}
use Rattle.work_pool.proofs.Hands.{as_many, reply-at}
use Rattle.work_pool.proofs.hand.Hand.take_all.Goals as goal

pub returns : goal.returns
returns g c = λ r.
    let jobs = c.self.inside.jobs.items in
    let replies = c.self.inside.replies.items in
    let enough = as_many jobs replies (subst AreReplied (sym c.self.view_is) c.requires) in
    let even : length replies ≡ length jobs = omega (arith, enough, c.self.invariant.0) in
    ap (λ v. slice_get v.items r) c.replace.ensures.value ∙ reply-at jobs replies r even ∙ ap (λ (tasks : List (Task _ _)). reply_of tasks r) c.self.view_is
