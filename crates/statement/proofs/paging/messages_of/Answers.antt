use Rattle.std.proofs.Common.{◌≡◌, ◌+◌, ◌∷◌, [], ◌++◌, map, take, sym, ap, ◌∙◌, subst}
use Rattle.std.specs.Prelude.{All}
use Rattle.std.proofs.lemmas.List.{map-append, take_more}
use Rattle.std.proofs.lemmas.List.Elements.{All-append}
use Rattle.statement.specs.inner.Running.{message_by}
use Rattle.statement.specs.inner.Valid.{PageReadsBack}
use Rattle.statement.specs.declared.page.PlacedPage.{PlacedPage}
use Rattle.statement.proofs.Adding.{all-one}
use Rattle.statement.proofs.paging.messages_of.Goals as goal

pub loop-placed-preserved : goal.loop-placed-preserved
loop-placed-preserved c =
    let l = c.loop-placed in
    let pages = c.args.pages.now in
    let placed : PlacedPage = c.placed-item.result in
    let more : take (l.placed-index + 1) pages ≡ take l.placed-index pages ++ placed ∷ [] =
    take_more pages l.placed-index placed c.loop-placed-test.true ∙ ap (λ (p : PlacedPage). take l.placed-index pages ++ p ∷ []) (sym c.placed-item.is) in
    let Reads : PlacedPage → Type 0 = λ p. PageReadsBack c.args.home.now c.args.to.now p.page in
    record {
      texts =
          c.in_ok-push.ensures.ok ∙ (λ i. l.invariant.texts i ++ c.in_ok-page_message.ensures.value i ∷ [])
          ∙ sym (ap (map (λ (p : PlacedPage). message_by c.args.home.now c.args.to.now p.page)) more
          ∙ map-append (λ (p : PlacedPage). message_by c.args.home.now c.args.to.now p.page) (take l.placed-index pages) (placed ∷ []));
      back = subst (All Reads) (sym more) (All-append Reads (take l.placed-index pages) (placed ∷ []) l.invariant.back (all-one Reads placed c.in_ok-page_message.ensures.back));
    }
