use Rattle.std.proofs.Common.{◌≡◌, ◌+◌, ◌∷◌, [], ◌++◌, map, take, sym, ap, ◌∙◌, subst}
use Rattle.std.specs.Prelude.{All}
use Rattle.std.proofs.lemmas.List.{map-append, take_more}
use Rattle.std.proofs.lemmas.List.Elements.{All-append}
use Rattle.statement.specs.declared.page.PlacedPage.{PlacedPage}
use Rattle.mt940_out.specs.Pages.{customer_message, noted_page}
use Rattle.mt940_out.specs.Valid.{IsSent}
use Rattle.mt940_out.proofs.Told.{all-one}
use Rattle.mt940_out.proofs.paging.messages_of.Goals as goal

pub loop-placed-preserved : goal.loop-placed-preserved
loop-placed-preserved c =
    let l = c.loop-placed in
    let pages = c.args.pages.now in
    let placed : PlacedPage = c.placed-item.result in
    let more : take (l.placed-index + 1) pages ≡ take l.placed-index pages ++ placed ∷ [] =
    take_more pages l.placed-index placed c.loop-placed-test.true ∙ ap (λ (p : PlacedPage). take l.placed-index pages ++ p ∷ []) (sym c.placed-item.is) in
    let Sent : PlacedPage → Type 0 = λ p. IsSent c.args.home.now (noted_page c.args.h.now.entries p) in
    record {
      texts =
          c.in_ok-push.ensures.ok ∙ (λ i. l.invariant.texts i ++ c.in_ok-customer_message.ensures.value i ∷ [])
          ∙ sym (ap (map (λ (p : PlacedPage). customer_message c.args.home.now (noted_page c.args.h.now.entries p))) more
          ∙ map-append (λ (p : PlacedPage). customer_message c.args.home.now (noted_page c.args.h.now.entries p)) (take l.placed-index pages) (placed ∷ []));
      sent = subst (All Sent) (sym more) (All-append Sent (take l.placed-index pages) (placed ∷ []) l.invariant.sent (all-one Sent placed c.in_ok-customer_message.ensures.sent));
    }
