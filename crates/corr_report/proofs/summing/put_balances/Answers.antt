use Rattle.std.proofs.Common.{◌≡◌, ◌+◌, ◌-◌, ◌++◌, ap, sym, ◌∙◌, arith, to_z, of_z, w64}
use Rattle.std.proofs.lemmas.Int.{to_z-of_z}
use Rattle.std.proofs.lemmas.Option.{slice_get_within, get_or_from_slice_get}
use Rattle.day_model.specs.Chart.{accounts_of}
use Rattle.day_model.specs.Balance.{balance_of}
use Rattle.corr_report.specs.Summary.{balance_line}
use Rattle.corr_report.proofs.laws.LineLists.{numbered_more}
use Rattle.corr_report.proofs.summing.put_balances.Goals as goal

pub put_line-requires : goal.put_line-requires
put_line-requires c = (c.get.ensures.sound.rows.apart.formed (c.loop-n.n - 1) c.get.result.now c.get.ensures.value).decimals

pub loop-n-preserved : goal.loop-n-preserved
loop-n-preserved c =
    let l = c.loop-n in
    let accounts = accounts_of c.args.a.now in
    let account = c.get.result.now in
    let within = slice_get_within accounts (l.n - 1) account c.get.ensures.value in
    let item = get_or_from_slice_get accounts (l.n - 1) account account c.get.ensures.value in
    let next : l.n - 1 + 1 ≡ l.n + 1 - 1 = omega (arith, l.auto.n) in
    let number : l.n - 1 + 1 ≡ l.n = omega (arith, l.auto.n) in
    let balance = balance_of c.args.a.now c.args.h.now.entries in
    let passed : to_z w64 (of_z w64 c.balance.result) ≡ c.balance.result = to_z-of_z w64 c.balance.result (record { sfits = c.balance.type_inv }) in
    let line = c.in_ok-put_line.ensures ∙ (ap (λ b. l.out ++ balance_line b account) (passed ∙ c.balance.ensures.value) ∙ ap (λ a. l.out ++ balance_line (balance l.n) a) (sym item)) in
    numbered_more (λ n. balance_line (balance n)) accounts (l.n - 1) (l.n + 1 - 1) l.n account c.args.out.now l.out _ within next number l.invariant line
