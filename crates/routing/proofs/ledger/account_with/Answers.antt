use Rattle.std.proofs.Common.{◌≡◌, ℕ, IfSome, Some, subst}
use Rattle.day_model.specs.declared.account.Account.{Account}
use Rattle.day_model.specs.Chart.{account_at}
use Rattle.routing.proofs.Fitting.{owned-Fits, owned-kind}
use Rattle.routing.proofs.ledger.account_with.Goals as goal

pub returns-clause-fits : goal.returns-clause-fits
returns-clause-fits c = owned-Fits c.letter.result c.args.bank.now.head c.args.amount.now c.args.a.now c.owned.result c.owned.ensures

pub returns-clause-kind : goal.returns-clause-kind
returns-clause-kind c =
    subst (λ (k : ℕ). IfSome c.owned.result (λ n. (x : Account) → account_at c.args.a.now n.0 ≡ Some x → x.kind ≡ k)) c.letter.ensures
    (owned-kind c.letter.result c.args.bank.now.head c.args.amount.now c.args.a.now c.owned.result c.owned.ensures)
