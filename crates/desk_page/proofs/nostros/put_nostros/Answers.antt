use Rattle.std.proofs.Common.{◌≡◌, ◌<◌, ◌+◌, ◌-◌, ◌++◌, length, sym, ap, ◌∙◌, arith}
use Rattle.std.proofs.lemmas.Option.{slice_get_within, get_or_from_slice_get}
use Rattle.corr_report.proofs.laws.LineLists.{numbered_more}
use Rattle.day_model.specs.Chart.{accounts_of}
use Rattle.day_model.specs.declared.account.Account.{Account}
use Rattle.desk_page.specs.Markup.{markup}
use Rattle.desk_page.specs.Nostros.{nostro_if}
use Rattle.desk_page.specs.declared.mark.Piece.TheVariants.{NostrosBegin}
use Rattle.desk_page.proofs.nostros.put_nostros.Goals as goal

pub loop-n-preserved : goal.loop-n-preserved
loop-n-preserved c =
    let l = c.loop-n in
    let accounts = accounts_of c.args.a.now in
    let account = c.get.result.now in
    let rows = c.args.rows.now in
    let within : l.n - 1 < length accounts = slice_get_within accounts (l.n - 1) account c.get.ensures.value in
    let item = get_or_from_slice_get accounts (l.n - 1) account account c.get.ensures.value in
    let next : l.n - 1 + 1 ≡ l.n + 1 - 1 = omega (arith, l.auto.n) in
    let number : l.n - 1 + 1 ≡ l.n = omega (arith, l.auto.n) in
    let line = c.in_ok-put_nostro.ensures ∙ ap (λ (a : Account). l.out ++ nostro_if rows l.n a) (sym item) in
    numbered_more (nostro_if rows) accounts (l.n - 1) (l.n + 1 - 1) l.n account (c.args.out.now ++ markup NostrosBegin) l.out _ within next number l.invariant line
