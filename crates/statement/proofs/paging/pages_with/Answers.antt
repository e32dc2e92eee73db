use Rattle.std.proofs.Common.{map, subst, ◌∙◌}
use Rattle.std.specs.Prelude.{All}
use Rattle.std.proofs.lemmas.Result.{IfOk-weaker, on_ok_weaker}
use Rattle.corr_ids.specs.declared.bic.Bic.{Bic}
use Rattle.statement.specs.inner.Running.{message_by}
use Rattle.statement.specs.inner.Valid.{PageReadsBack}
use Rattle.statement.specs.declared.page.PlacedPage.{PlacedPage}
use Rattle.statement.proofs.Printing.{all-messages, all-read-back, owner-is, printable, statement-closes}
use Rattle.statement.proofs.laws.Accepting.{accepted}
use Rattle.statement.proofs.paging.pages_with.Goals as goal

pub returns-in_err-pages-clause-closes : goal.returns-in_err-pages-clause-closes
returns-in_err-pages-clause-closes c = statement-closes c.args.ix.now c.args.n.0 c.args.day

pub returns-clause-closes : goal.returns-clause-closes
returns-clause-closes c = statement-closes c.args.ix.now c.args.n.0 c.args.day

pub messages_of-requires-clause-owner : goal.messages_of-requires-clause-owner
messages_of-requires-clause-owner c = owner-is c.args.ix.now c.args.n c.args.day c.ledger.result.now c.ledger.ensures c.requires.0 c.requires.1

pub returns-clause-value : goal.returns-clause-value
returns-clause-value c =
    IfOk-weaker c.messages_of.result _ _ (λ texts made. λ book prints.
    all-messages c.args.ix.now c.args.n c.args.day c.ledger.result.now c.ledger.ensures book prints texts c.in_ok-pages.pages (c.in_ok-pages.ensures.value book prints)
    (made ∙ (λ i. map (λ (placed : PlacedPage). message_by (c.home.ensures i) c.ledger.result.now.owner placed.page) (c.as_slice.ensures i)))) c.messages_of.ensures.value

pub returns-clause-accepted : goal.returns-clause-accepted
returns-clause-accepted c =
    on_ok_weaker c.messages_of.result (λ back. λ book prints.
    accepted book c.args.n.0 c.args.day (printable c.args.ix.now c.args.n.0 c.args.day book prints)
    (all-read-back c.args.ix.now c.args.n c.args.day c.ledger.result.now c.ledger.ensures book prints c.in_ok-pages.pages (c.in_ok-pages.ensures.value book prints)
    (subst (λ (home : Bic). All (λ (placed : PlacedPage). PageReadsBack home c.ledger.result.now.owner placed.page) c.in_ok-pages.pages) c.home.ensures
    (subst (All (λ (placed : PlacedPage). PageReadsBack c.home.result.now c.ledger.result.now.owner placed.page)) c.as_slice.ensures back)))) c.messages_of.ensures.back
