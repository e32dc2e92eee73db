use Rattle.std.proofs.Common.{◌≡◌, ◌∙◌, false, ap}
use Rattle.corr_top.specs.inner.Fed.{Fed}
use Rattle.corr_top.specs.inner.Stream.{batches_of, messages_so_far}
use Rattle.corr_top.proofs.FeedSteps.{fed_on, given_stay}
use Rattle.corr_top.proofs.feeding.MessageFeed.read_on.Goals as goal

pub invariant_of-self : goal.invariant_of-self
invariant_of-self g c =
    let inside = c.self.inside in
    let old = c.self.invariant in
    let more = c.read_past.ensures.more in
    let open_now : inside.over ≡ false = ap (λ (f : Fed g.row.S.Denot). f.over) c.self.view_is ∙ c.requires.open in (
      fed_on g.S.Source g.F.FileName.left g.F.FileName.faults inside.file c.read_past.new.self inside.sizes.items inside.given more.0 more.1 inside.over open_now old.0
          (c.read_past.ensures.stream g.F.FileName.left g.F.FileName.faults old.0.is.stream),
      old.1,
      old.2,
      old.3,
      (c.share_of-self-inside.ensures.some, c.share_of-self-inside.ensures.few),
    )

pub returns-clause-given : goal.returns-clause-given
returns-clause-given g c =
    let inside = c.self.inside in
    let more = c.read_past.ensures.more in
    given_stay g.S.Source g.F.FileName.left g.F.FileName.faults inside.file c.read_past.new.self inside.sizes.items inside.given more.0 more.1 inside.over c.self.invariant.0
    ∙ ap (λ (f : Fed g.row.S.Denot). batches_of f.sizes (messages_so_far f.file)) c.self.view_is
