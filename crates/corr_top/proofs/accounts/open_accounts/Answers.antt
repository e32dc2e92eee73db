use Rattle.std.proofs.Common.{◌∙◌, inl, inr, refl, ap, List, []}
use Rattle.std.proofs.lemmas.Result.{err_from_is_err_and}
use Rattle.day_model.specs.declared.account.Account.{Account}
use Rattle.ref_tables.specs.declared.fault.TableName.TheVariants as names
use Rattle.ref_tables.specs.Accounts.{accounts_fault}
use Rattle.ref_tables.specs.Refusals.{named}
use Rattle.ref_tables.specs.Seen.{Tables}
use Rattle.corr_top.proofs.TableFiles.{accounts_after, accounts_read, accounts_stopped, fine_from, fine_under, same_rows, stops_from, stops_under, sums_balance, sums_stopped}
use Rattle.corr_top.proofs.accounts.open_accounts.Goals as goal

pub returns-in_err-known-clause-stopped : goal.returns-in_err-known-clause-stopped
returns-in_err-known-clause-stopped g c =
    let p = err_from_is_err_and c.from_residual.result c.from_residual.ensures.1 in
    rw (p.1, p.2) (accounts_after g.S.Source c.args.files.now c.read_known.new.files c.args.home c.in_err-known.field-0.0 c.in_err-known.ensures.stopped)

pub returns-in_err-rows-clause-stopped : goal.returns-in_err-rows-clause-stopped
returns-in_err-rows-clause-stopped g c =
    let p = err_from_is_err_and c.from_residual-in_err-rows.result c.from_residual-in_err-rows.ensures.1 in
    let known = c.in_ok-known.ensures.fine in
    let q = c.in_err-rows.ensures.stopped in
    let i = record known.inputs { home = c.args.home; accounts = q.0 } in
    let stops = stops_from _ _ _ c.args.files.now.accounts q.0 _ _ known.accounts (stops_under _ _ _ q.0 _ (λ (t : Tables). named names.Accounts (accounts_fault c.args.home.head t q.0)) _ _ known.known_is q.1) in
    rw (p.1, p.2) (accounts_stopped _ _ _ i _ known.passed (inl ((c.in_err-rows.field-0.0, refl, stops), (tt, tt))) known.ssi known.charges)

pub returns-in_err-make_accounts-clause-stopped : goal.returns-in_err-make_accounts-clause-stopped
returns-in_err-make_accounts-clause-stopped g c =
    let p = err_from_is_err_and c.from_residual-in_err-make_accounts.result c.from_residual-in_err-make_accounts.ensures.1 in
    let known = c.in_ok-known.ensures.fine in
    let rows = c.in_ok-rows.ensures.fine in
    let i = record known.inputs { home = c.args.home; accounts = rows.0 } in
    let accounts = fine_from _ _ _ c.args.files.now.accounts rows.0 _ known.accounts (fine_under _ _ _ rows.0 (λ (t : Tables). named names.Accounts (accounts_fault c.args.home.head t rows.0)) _ _ known.known_is rows.1) in
    let stops = sums_stopped i _ c.in_err-make_accounts.field-0.0 (same_rows i _ c.in_ok-rows.rows.items known.known_is rows.2) c.in_err-make_accounts.ensures.unbalanced c.in_err-make_accounts.ensures.decimals in
    rw (p.1, p.2) (accounts_stopped _ _ _ i _ known.passed (inr (accounts, inl ((c.in_err-make_accounts.field-0.0, refl, stops), tt))) known.ssi known.charges)

pub returns-clause-fine : goal.returns-clause-fine
returns-clause-fine g c =
    let known = c.in_ok-known.ensures.fine in
    let rows = c.in_ok-rows.ensures.fine in
    let i = record known.inputs { home = c.args.home; accounts = rows.0 } in
    let accounts = fine_from _ _ _ c.args.files.now.accounts rows.0 _ known.accounts (fine_under _ _ _ rows.0 (λ (t : Tables). named names.Accounts (accounts_fault c.args.home.head t rows.0)) _ _ known.known_is rows.1) in
    let list = same_rows i _ c.in_ok-rows.rows.items known.known_is rows.2 in
    accounts_read _ _ _ i _ known.passed (accounts, (sums_balance i _ list c.in_ok-make_accounts.ensures.balanced, tt))
    (c.in_ok-make_accounts.ensures.ok ∙ ap (λ (l : List Account). record { home = c.args.home; first = l; changes = [] }) list) known.ssi known.charges
