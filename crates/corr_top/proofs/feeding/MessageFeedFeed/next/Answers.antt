use Rattle.std.proofs.Common.{◌∙◌, [], append-nil, sym}
use Rattle.fin_frame.specs.Pieces.{at_places}
use Rattle.corr_top.proofs.FeedSteps.{fed_stopped}
use Rattle.corr_top.proofs.feeding.MessageFeedFeed.next.Goals as goal

pub invariant_of-self-in-Err : goal.invariant_of-self-in-Err
invariant_of-self-in-Err g c =
    let inside = c.self-3.inside in
    let old = c.self-3.invariant in
    let stop = c.stop.ensures in
    let same = (λ i. at_places (stop.text i) (stop.places i).items) ∙ sym (append-nil _) in (
      fed_stopped g.S.Source g.F.FileName.left g.F.FileName.faults inside.file c.stop.new.self inside.sizes.items inside.given [] same inside.over old.0
          (stop.stream g.F.FileName.left g.F.FileName.faults old.0.is.stream) stop.stopped,
      old.1,
      old.2,
      old.3,
      old.4,
    )
