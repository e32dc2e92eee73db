use Rattle.std.proofs.Common.{◌≡◌, ◌<◌, true, false, length, rules, sym, ◌∙◌}
use Rattle.std.proofs.lemmas.Bool.{lt-ltb, ltb-true}
use Rattle.day_model.specs.Balance.{balance_of}
use Rattle.day_model.specs.Changes.{most_changes}
use Rattle.day_model.specs.Chart.{accounts_of}
use Rattle.day_model.specs.Legal.{IsLegalChange, balance_named}
use Rattle.jrn_book.proofs.Bools.{on_true}
use Rattle.jrn_book.proofs.Items.{change_is_legal, change_was_legal}
use Rattle.jrn_book.proofs.past.Past.may_change.Goals as goal

pub returns-then-not-has_change_left-clause-only : goal.returns-then-not-has_change_left-clause-only
returns-then-not-has_change_left-clause-only c = λ legal.
    let was = change_was_legal c.args.self.now.accounts c.args.self.now.history c.args.what.now legal in
    let yes : c.has_change_left.result ≡ true = c.has_change_left.ensures ∙ lt-ltb (length c.args.self.now.accounts.changes) most_changes was.few in
    let no : c.has_change_left.result ≡ false = search rules in
    absurd (cc (yes, no))

pub returns-clause-legal : goal.returns-clause-legal
returns-clause-legal c =
    let chart = c.args.self.now.accounts in
    let h = c.args.self.now.history in
    let what = c.args.what.now in
    let left : c.has_change_left.result ≡ true = search rules in
    let few : length chart.changes < most_changes = ltb-true (length chart.changes) most_changes (sym c.has_change_left.ensures ∙ left) in
    on_true c.is_not_refused.result (IsLegalChange (accounts_of chart) (balance_named (balance_of chart h) what) what) _
    (λ change. change_is_legal chart h what c.history.ensures.legal (record { few = few; legal = change }))
    c.is_not_refused.ensures.legal

pub returns-clause-only : goal.returns-clause-only
returns-clause-only c = λ legal. c.is_not_refused.ensures.all (change_was_legal c.args.self.now.accounts c.args.self.now.history c.args.what.now legal).legal
