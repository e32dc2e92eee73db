use Rattle.std.proofs.Common.{◌≡◌, ◌∙◌, ◌++◌, ◌∷◌, [], ℕ, All, List, ap, drop, subst, sym, take}
use Rattle.fin_frame.specs.Pieces.{at_places}
use Rattle.fin_frame.specs.declared.place.Place.{Place}
use Rattle.corr_top.specs.inner.Batching.{IsShort}
use Rattle.corr_top.specs.inner.Stream.{batches_of, messages_so_far}
use Rattle.corr_top.proofs.FeedSteps.{one_given, slice_short}
use Rattle.corr_top.proofs.feeding.MessageFeed.give.Goals as goal

pub batch_at-requires-clause-short : goal.batch_at-requires-clause-short
batch_at-requires-clause-short g c =
    let inside = c.self.inside in
    let count = c.next_count-count.result in
    let at_is : c.next_places-at.result.now ≡ take count (drop inside.given inside.file.places.items) = c.next_places-at.ensures ∙ ap (λ (ps : List Place). take count (drop inside.given ps)) c.as_slice.ensures.value in
    subst (λ (x : List ℕ × List Place). All IsShort (at_places x.0 x.1)) (λ i. (sym c.bytes.ensures i, sym at_is i))
    (slice_short g.S.Source g.F.FileName.left g.F.FileName.faults inside.file c.self.invariant.0.is.stream inside.given count)

pub returns-clause-ok : goal.returns-clause-ok
returns-clause-ok g c =
    let inside = c.self.inside in
    let count = c.next_count-count.result in
    let at_is : c.next_places-at.result.now ≡ take count (drop inside.given inside.file.places.items) = c.next_places-at.ensures ∙ ap (λ (ps : List Place). take count (drop inside.given ps)) c.as_slice.ensures.value in
    let batch_is : at_places inside.file.text (take count (drop inside.given inside.file.places.items)) ≡ c.in_ok-batch.batch = sym (c.in_ok-batch.ensures ∙ (λ i. at_places (c.bytes.ensures i) (at_is i))) in
    let sizes_are : c.push_reserved.new.self.items ≡ inside.sizes.items ++ count ∷ [] = c.push_reserved.ensures.items ∙ ap (λ (ns : List ℕ). ns ++ count ∷ []) c.reserve.ensures.items in
    ap (λ (ns : List ℕ). batches_of ns (messages_so_far inside.file)) sizes_are
    ∙ one_given g.S.Source g.F.FileName.left g.F.FileName.faults inside.file inside.sizes.items inside.given count inside.over c.self.invariant.0
    ∙ (λ i. batches_of (c.self.view_is i).sizes (messages_so_far (c.self.view_is i).file) ++ batch_is i ∷ [])
