use Rattle.std.proofs.Common.{◌≡◌, ℕ, List, Result, Ok, sym, ap, ◌∙◌}
use Rattle.corr_text.specs.declared.fault.Code.{Code}
use Rattle.day_model.specs.Chart.{Chart}
use Rattle.day_model.specs.Same.{reply_to}
use Rattle.day_model.specs.declared.entry.Entry.{Entry}
use Rattle.day_model.specs.declared.pay.Pay.{Pay}
use Rattle.desk_page.specs.Row.{standing_by}
use Rattle.pay_plan.specs.Plan.{plan_of}
use Rattle.corr_top.specs.inner.Asks.{unplaced}
use Rattle.corr_top.specs.Message.{message_reply, unrouted}
use Rattle.corr_top.proofs.showing.stand.Goals as goal

pub returns-in-Ok-clause-value : goal.returns-in-Ok-clause-value
returns-in-Ok-clause-value g c =
    let directory = c.args.directory.now in
    let envelope = c.args.envelope.now in
    let text = c.args.text.now in
    let ask = c.args.ask in
    let pay = c.in_ok-pay-in-Ok.pay in
    let accounts = c.accounts-accounts.result.now in
    let history = c.args.book.now.history in
    let planned : plan_of envelope text (unplaced ask) directory.ssi directory.charges accounts ≡ Ok pay =
    ap (λ (t : List ℕ). plan_of envelope t (unplaced ask) directory.ssi directory.charges accounts) (sym c.in_ok-lines.ensures) ∙ c.in-Ok.ensures.plan ∙ ap (λ (p : Pay). Ok p) (sym c.in_ok-pay-in-Ok.ensures.value) in
    let here : plan_of envelope text (unplaced ask) directory.ssi directory.charges c.args.book.now.accounts ≡ Ok pay =
    ap (λ (a : Chart). plan_of envelope text (unplaced ask) directory.ssi directory.charges a) (sym c.accounts-accounts.ensures.value) ∙ planned in
    c.standing_for.ensures.value
    ∙ ap (λ (es : List Entry). standing_by es (reply_to pay es)) c.history.ensures.value
    ∙ ap (λ (p : Result Pay Code). standing_by history (message_reply history (unrouted envelope p))) (sym here)
