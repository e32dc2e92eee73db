use Rattle.std.proofs.Common.{◌≡◌, ◌<◌, ◌+◌, ◌-◌, ◌++◌, ℤ, length, sym, ap, ◌∙◌, subst, arith}
use Rattle.std.proofs.lemmas.Option.{slice_get_within, get_or_from_slice_get}
use Rattle.day_model.specs.declared.account.Account.{Account}
use Rattle.day_model.specs.Balance.{balance_of}
use Rattle.day_model.specs.Chart.{IsListed, IsSmall, accounts_of}
use Rattle.day_model.specs.Totals.{Pair}
use Rattle.corr_report.proofs.laws.LineLists.{numbered_more}
use Rattle.corr_report.proofs.laws.Totals.{balance_is, pair_is}
use Rattle.desk_rows.specs.Balances.{account_row, balance_header, row_of}
use Rattle.desk_rows.specs.Until.{entries_until}
use Rattle.desk_rows.proofs.Counted.{small_until}
use Rattle.desk_rows.proofs.account_rows.balances.Goals as goal

pub put_row-requires-clause-decimals : goal.put_row-requires-clause-decimals
put_row-requires-clause-decimals c = (c.get.ensures.sound.rows.apart.formed (c.loop-n.n - 1) c.get.result.now c.get.ensures.value).decimals

pub put_row-requires-clause-small : goal.put_row-requires-clause-small
put_row-requires-clause-small c =
    let l = c.loop-n in
    let chart = c.args.a.now in
    let all = c.args.h.now.entries in
    let entries = entries_until c.args.until all in
    let account = c.get.result.now in
    let p = c.index.result.now in
    let within : l.n - 1 < length (accounts_of chart) = slice_get_within (accounts_of chart) (l.n - 1) account c.get.ensures.value in
    let there : IsListed chart l.n = (omega (arith, l.auto.n), omega (arith, l.auto.n, within)) in
    let totals = pair_is entries c.in_ok-totals.totals.items l.n (length (accounts_of chart)) p p c.in_ok-totals.ensures.value there.0 there.1 c.index.ensures in
    subst IsSmall (sym (balance_is chart entries l.n p account totals c.get.ensures.value)) (small_until chart all c.args.until l.n c.get.ensures.sound c.requires there)

pub loop-n-preserved : goal.loop-n-preserved
loop-n-preserved c =
    let l = c.loop-n in
    let chart = c.args.a.now in
    let entries = entries_until c.args.until c.args.h.now.entries in
    let accounts = accounts_of chart in
    let account = c.get.result.now in
    let p = c.index.result.now in
    let within : l.n - 1 < length accounts = slice_get_within accounts (l.n - 1) account c.get.ensures.value in
    let item = get_or_from_slice_get accounts (l.n - 1) account account c.get.ensures.value in
    let there : IsListed chart l.n = (omega (arith, l.auto.n), omega (arith, l.auto.n, within)) in
    let totals = pair_is entries c.in_ok-totals.totals.items l.n (length accounts) p p c.in_ok-totals.ensures.value there.0 there.1 c.index.ensures in
    let balance = balance_is chart entries l.n p account totals c.get.ensures.value in
    let next : l.n - 1 + 1 ≡ l.n + 1 - 1 = omega (arith, l.auto.n) in
    let number : l.n - 1 + 1 ≡ l.n = omega (arith, l.auto.n) in
    let line =
    c.in_ok-put_row.ensures
    ∙ ap (λ (b : ℤ). l.out ++ account_row account p.1 p.0 b) balance
    ∙ ap (λ (q : Pair). l.out ++ account_row account q.1 q.0 (balance_of chart entries l.n)) totals
    ∙ ap (λ (a : Account). l.out ++ row_of chart entries l.n a) (sym item) in
    numbered_more (row_of chart entries) accounts (l.n - 1) (l.n + 1 - 1) l.n account balance_header l.out _ within next number l.invariant line
