use Rattle.std.proofs.Common.{◌∙◌, ◌++◌, ℕ, List, subst, sym, ap}
use Rattle.jrn_codec.specs.Header.{IsHead, head_bytes}
use Rattle.std.proofs.lemmas.Result.{err_from_is_err_and}
use Rattle.corr_ids.specs.Bic.{IsBic}
use Rattle.corr_ids.specs.declared.bic.Bic.{Bic}
use Rattle.day_model.specs.Chart.{Chart, bare}
use Rattle.corr_top.proofs.TableFiles.{memory_after}
use Rattle.corr_top.proofs.init.prepare.Goals as goal

pub returns-in_err-accounts-clause-stopped : goal.returns-in_err-accounts-clause-stopped
returns-in_err-accounts-clause-stopped g c =
    let p = err_from_is_err_and c.from_residual.result c.from_residual.ensures.1 in
    rw (p.1, p.2) c.in_err-accounts.ensures.stopped

pub returns-in_err-head-clause-stopped : goal.returns-in_err-head-clause-stopped
returns-in_err-head-clause-stopped g c =
    let p = err_from_is_err_and c.from_residual-in_err-head.result c.from_residual-in_err-head.ensures.1 in
    rw (p.1, p.2) (memory_after g.S.Source c.args.tables.now c.open_accounts.new.files c.args.home c.in_ok-accounts.accounts c.in_ok-accounts.ensures.fine)

pub returns-in_err-put_head-clause-stopped : goal.returns-in_err-put_head-clause-stopped
returns-in_err-put_head-clause-stopped g c =
    let p = err_from_is_err_and c.from_residual-in_err-put_head.result c.from_residual-in_err-put_head.ensures.1 in
    rw (p.1, p.2) (memory_after g.S.Source c.args.tables.now c.open_accounts.new.files c.args.home c.in_ok-accounts.accounts c.in_ok-accounts.ensures.fine)

pub returns-in_err-texts-clause-stopped : goal.returns-in_err-texts-clause-stopped
returns-in_err-texts-clause-stopped g c =
    let p = err_from_is_err_and c.from_residual-in_err-texts.result c.from_residual-in_err-texts.ensures.1 in
    rw (p.1, p.2) (memory_after g.S.Source c.args.tables.now c.open_accounts.new.files c.args.home c.in_ok-accounts.accounts c.in_ok-accounts.ensures.fine)

pub returns-clause-fine : goal.returns-clause-fine
returns-clause-fine g c =
    let has = c.in_ok-accounts.ensures.fine in
    let home = subst (λ (b : Bic). IsBic b) (sym (ap (λ (x : Chart). x.home) has.chart_is ∙ has.home_is)) c.requires in
    (c.in_ok-accounts.accounts, has, subst IsHead (ap bare has.chart_is ∙ sym has.chart_is) (c.in_ok-put_head.ensures.head home), (c.in_ok-put_head.ensures.ok ∙ ap (λ (t : List ℕ). t ++ head_bytes c.in_ok-accounts.accounts) c.in_ok-head.ensures), c.in_ok-texts.ensures.0, c.in_ok-texts.ensures.1)
