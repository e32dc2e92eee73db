use Rattle.std.proofs.Common.{All, ap, arith, length, length-append, subst, sym, ◌∷◌, []}
use Rattle.std.proofs.lemmas.List.Elements.{All-push}
use Rattle.fin_contents.specs.Writing.{IsReadable}
use Rattle.mt950.specs.Page.{mt950_of}
use Rattle.row_messages.proofs.statements.pages_in.Goals as goal

-- one page more, which was read
pub loop-text-preserved : goal.loop-text-preserved
loop-text-preserved c =
    let pages = c.loop-text.pages in
    let page = c.in_ok-page_in.field-0 in
    let pushed = c.in_ok-push.ensures.ok in (
      omega (arith, ap length pushed, length-append pages (page ∷ []), c.loop-text.invariant.0),
      subst (All (IsReadable mt950_of)) (sym pushed) (All-push (IsReadable mt950_of) pages page c.loop-text.invariant.1 c.in_ok-page_in.ensures),
    )
