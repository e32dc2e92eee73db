use Rattle.std.proofs.Common.{◌+◌, ◌-◌, List, drop, map, sym, ap, ◌∙◌, arith}
use Rattle.indexmap.specs.IndexSet.{insert_all}
use Rattle.corr_money.specs.declared.amount.Ccy.{Ccy}
use Rattle.corr_report.proofs.laws.Rests.{rest_at, rest_none}
use Rattle.day_model.specs.Chart.{accounts_of, is_same_ccy}
use Rattle.day_model.specs.declared.account.Account.{Account}
use Rattle.desk_page.proofs.account_table.currencies.Goals as goal

-- the currencies after those of these accounts
abbrev after : List Ccy → List Account → List Ccy
after seen accounts = insert_all is_same_ccy seen (map (λ account. account.ccy) accounts)

pub loop-n-preserved : goal.loop-n-preserved
loop-n-preserved c =
    let l = c.loop-n in
    let rest = rest_at (accounts_of c.args.a.now) l.n c.get-account.result.now l.auto.n c.get-account.ensures.value in
    let step = ap (after l.seen.items) rest in
    let noted = ap (λ (seen : List Ccy). after seen (drop (l.n + 1 - 1) (accounts_of c.args.a.now))) c.in_ok-note.ensures in
    noted ∙ (sym step ∙ l.invariant)

pub returns : goal.returns
returns c =
    let l = c.loop-n in
    let none = rest_none (accounts_of c.args.a.now) l.n (omega (arith, c.loop-n-test.false, c.count-n-end.ensures.count)) in
    sym (ap (after l.seen.items) none) ∙ l.invariant
