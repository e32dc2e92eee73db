use Rattle.std.proofs.Common.{◌∙◌, ◌≤◌, ℕ, List, ap, arith, length, subst, sym}
use Rattle.std.proofs.lemmas.List.{length-map}
use Rattle.fin_frame.specs.Pieces.{at_place}
use Rattle.fin_frame.specs.declared.place.Place.{Place}
use Rattle.corr_top.proofs.OwnedBatches.{short_at}
use Rattle.corr_top.proofs.batching.Batch.message.Goals as goal

pub returns-clause-short : goal.returns-clause-short
returns-clause-short g c =
    let inside = c.self.inside in
    let place = c.index.result.now in
    let within = c.requires in let view = ap length c.self.view_is in let many = length-map inside.places.items (at_place inside.text) in
    subst (λ (m : List ℕ). length m ≤ 16384) (sym (c.of.ensures ∙ ap (λ (b : List ℕ). at_place b place) c.bytes.ensures ∙ ap (λ (p : Place). at_place inside.text p) c.index.ensures))
    (short_at inside.text inside.places.items c.args.at place (omega (arith, within, view, many)) c.self.invariant.0.short)
