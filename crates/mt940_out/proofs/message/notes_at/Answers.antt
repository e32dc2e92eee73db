use Rattle.std.proofs.Common.{◌≡◌, ℕ, ◌+◌, ◌∷◌, [], ◌++◌, get_or, map, take, sym, ap, ◌∙◌, subst}
use Rattle.std.specs.Prelude.{All}
use Rattle.std.proofs.lemmas.List.{map-append, take_more}
use Rattle.std.proofs.lemmas.List.Elements.{All-append}
use Rattle.mt940_out.specs.Notes.{note_at}
use Rattle.mt940_out.specs.inner.Writing.{IsNote}
use Rattle.mt940_out.proofs.Told.{all-one}
use Rattle.mt940_out.proofs.message.notes_at.Goals as goal

pub loop-place-preserved : goal.loop-place-preserved
loop-place-preserved c =
    let l = c.loop-place in
    let places = c.args.places.now in
    let note = note_at c.args.h.now.entries in
    let place : ℕ = get_or places l.place-index 0 in
    let more : take (l.place-index + 1) places ≡ take l.place-index places ++ place ∷ [] =
    take_more places l.place-index 0 c.loop-place-test.true in
    record {
      notes =
          c.in_ok-push.ensures.ok ∙ (λ i. l.invariant.notes i ++ c.in_ok-note_at.ensures.value i ∷ [])
          ∙ sym (ap (map note) more ∙ map-append note (take l.place-index places) (place ∷ []));
      fit = subst (All IsNote) (sym c.in_ok-push.ensures.ok) (All-append IsNote l.notes _ l.invariant.fit (all-one IsNote _ c.in_ok-note_at.ensures.fit));
    }
