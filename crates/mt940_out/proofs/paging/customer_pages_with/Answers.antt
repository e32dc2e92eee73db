use Rattle.std.proofs.Common.{◌≡◌, map, subst, ◌∙◌}
use Rattle.std.specs.Prelude.{All}
use Rattle.std.proofs.lemmas.Result.{IfOk-weaker, on_ok_weaker}
use Rattle.corr_ids.specs.declared.bic.Bic.{Bic}
use Rattle.statement.specs.Pages.{placed_pages_of}
use Rattle.statement.specs.Seen.{SeenBook}
use Rattle.statement.specs.declared.page.PlacedPage.{PlacedPage}
use Rattle.statement.proofs.laws.Closing.{closes}
use Rattle.mt940_out.specs.Pages.{customer_message, customer_pages_of, noted_page}
use Rattle.mt940_out.specs.Valid.{IsSent}
use Rattle.mt940_out.proofs.Stated.{pages-back, pages-beside, printable}
use Rattle.mt940_out.proofs.paging.customer_pages_with.Goals as goal

pub page_values-requires : goal.page_values-requires
page_values-requires c = (record { chart = c.args.a.now; entries = c.args.h.now.entries }, c.requires)

pub returns-in_err-pages-clause-pages : goal.returns-in_err-pages-clause-pages
returns-in_err-pages-clause-pages c = pages-beside c.args.a.now c.args.h.now.entries c.args.n.0 c.args.day

pub returns-in_err-pages-clause-closes : goal.returns-in_err-pages-clause-closes
returns-in_err-pages-clause-closes c = closes c.args.a.now c.args.h.now.entries c.args.n.0 c.args.day c.requires.has.is.legal c.requires.has.listed

pub returns-clause-pages : goal.returns-clause-pages
returns-clause-pages c = pages-beside c.args.a.now c.args.h.now.entries c.args.n.0 c.args.day

pub returns-clause-closes : goal.returns-clause-closes
returns-clause-closes c = closes c.args.a.now c.args.h.now.entries c.args.n.0 c.args.day c.requires.has.is.legal c.requires.has.listed

pub returns-clause-value : goal.returns-clause-value
returns-clause-value c =
    let book : SeenBook = record { chart = c.args.a.now; entries = c.args.h.now.entries } in
    let pages = c.as_slice.ensures ∙ c.in_ok-pages.ensures.value book c.requires in
    IfOk-weaker c.messages_of.result _ (λ texts. texts ≡ customer_pages_of book.chart book.entries c.args.n.0 c.args.day) (λ texts made.
    made ∙ (λ i. map (λ (placed : PlacedPage). customer_message (c.home.ensures i) (noted_page book.entries placed)) (pages i))) c.messages_of.ensures.value

pub returns-clause-reads : goal.returns-clause-reads
returns-clause-reads c =
    let book : SeenBook = record { chart = c.args.a.now; entries = c.args.h.now.entries } in
    let pages = c.as_slice.ensures ∙ c.in_ok-pages.ensures.value book c.requires in
    on_ok_weaker c.messages_of.result (λ sent.
    pages-back book c.args.n.0 c.args.day (printable c.args.ix.now c.args.n.0 c.args.day book c.requires)
    (subst (λ (home : Bic). All (λ (placed : PlacedPage). IsSent home (noted_page book.entries placed)) (placed_pages_of book.chart book.entries c.args.n.0 c.args.day)) c.home.ensures
    (subst (All (λ (placed : PlacedPage). IsSent c.home.result.now (noted_page book.entries placed))) pages sent))) c.messages_of.ensures.sent
