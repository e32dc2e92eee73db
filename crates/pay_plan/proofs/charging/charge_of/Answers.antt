use Rattle.std.proofs.Common.{◌≡◌, ◌<◌, arith, IfSome, IsTrue, Option, Some, subst}
use Rattle.corr_money.specs.declared.amount.Amount.{Amount}
use Rattle.corr_money.specs.declared.amount.Minor.{Minor}
use Rattle.day_model.specs.declared.account.Account.{Account}
use Rattle.day_model.specs.declared.account.AcctNo.{AcctNo}
use Rattle.day_model.specs.Chart.{account_at}
use Rattle.corr_ids.specs.Kinds.{fee}
use Rattle.routing.specs.Accounts.{fits_at}
use Rattle.pay_plan.specs.Charging.{IsTaken}
use Rattle.pay_plan.proofs.charging.charge_of.Goals as goal

pub returns-clause-taken : goal.returns-clause-taken
returns-clause-taken c =
    let chart = c.args.a.now in
    let whole = c.amount_in-whole.result.now in
    let found = c.in_ok-account.ensures.ok_part in
    let above : 0 < c.in-Some.amount.0 = subst (λ (o : Option Minor). IfSome o (λ m. 0 < m.0)) c.in-Some.is c.charge_asked.ensures.above in
    subst (λ (amount : Amount). IsTaken chart amount (record { account = c.in_ok-account.account; amount = c.in-Some.amount })) c.amount_in-whole.ensures (record {
      above = above;
      below = omega (arith, c.if-amount-whole.false);
      fits = subst (λ (o : Option AcctNo). IfSome o (λ n. IsTrue (fits_at chart whole n))) found c.account_with.ensures.fits;
      kind = subst (λ (o : Option AcctNo). IfSome o (λ n. (x : Account) → account_at chart n.0 ≡ Some x → x.kind ≡ fee)) found c.account_with.ensures.kind;
    })
