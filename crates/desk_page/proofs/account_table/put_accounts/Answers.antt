use Rattle.std.proofs.Common.{◌≡◌, ◌<◌, ◌+◌, ◌-◌, ◌++◌, ℤ, length, sym, ap, ◌∙◌, arith, to_z, of_z, w64}
use Rattle.std.proofs.lemmas.Int.{to_z-of_z}
use Rattle.std.proofs.lemmas.Option.{slice_get_within, get_or_from_slice_get}
use Rattle.day_model.specs.Chart.{accounts_of}
use Rattle.day_model.specs.declared.account.Account.{Account}
use Rattle.corr_report.proofs.laws.LineLists.{numbered_more}
use Rattle.desk_page.specs.AccountTable.{account_if, line_of}
use Rattle.desk_page.specs.inner.Books.{chart_in, entries_in}
use Rattle.desk_page.proofs.account_table.put_accounts.Goals as goal

pub put_if-requires-clause-decimals : goal.put_if-requires-clause-decimals
put_if-requires-clause-decimals c = (c.get.ensures.sound.rows.apart.formed (c.loop-n.n - 1) c.get.result.now c.get.ensures.value).decimals

pub put_if-requires-clause-ends : goal.put_if-requires-clause-ends
put_if-requires-clause-ends c = c.get.ensures.sound.rows.bounded (c.loop-n.n - 1) c.get.result.now c.get.ensures.value

pub loop-n-preserved : goal.loop-n-preserved
loop-n-preserved c =
    let l = c.loop-n in
    let chart = chart_in c.args.books in
    let entries = entries_in c.args.books in
    let accounts = accounts_of chart in
    let account = c.get.result.now in
    let within : l.n - 1 < length accounts = slice_get_within accounts (l.n - 1) account c.get.ensures.value in
    let item = get_or_from_slice_get accounts (l.n - 1) account account c.get.ensures.value in
    let next : l.n - 1 + 1 ≡ l.n + 1 - 1 = omega (arith, l.auto.n) in
    let number : l.n - 1 + 1 ≡ l.n = omega (arith, l.auto.n) in
    let passed : to_z w64 (of_z w64 c.balance_in-balance.result) ≡ c.balance_in-balance.result =
    to_z-of_z w64 c.balance_in-balance.result (record { sfits = c.balance_in-balance.type_inv }) in
    let line =
    c.in_ok-put_if.ensures
    ∙ ap (λ (b : ℤ). l.out ++ account_if c.args.ccy account b) (passed ∙ c.balance_in-balance.ensures.value)
    ∙ ap (λ (a : Account). l.out ++ line_of chart entries c.args.ccy l.n a) (sym item) in
    numbered_more (line_of chart entries c.args.ccy) accounts (l.n - 1) (l.n + 1 - 1) l.n account c.args.out.now l.out _ within next number l.invariant line
