use Rattle.std.proofs.Common.{arith}
use Rattle.std.proofs.lemmas.Result.{err_from_is_err_and}
use Rattle.jrn_codec.proofs.Heads.{is_found, is_only, is_refused}
use Rattle.jrn_codec.proofs.header.read_version.Goals as goal

pub returns-in_err-rows-clause-only : goal.returns-in_err-rows-clause-only
returns-in_err-rows-clause-only c =
    let p = err_from_is_err_and c.from_residual.result c.from_residual.ensures.1 in
    rw (p.1, p.2) (is_refused c.args.version.now c.args.b.now c.in_err-rows.field-0.0 c.requires c.in_err-rows.ensures)

pub returns-clause-found : goal.returns-clause-found
returns-clause-found c = is_found c.args.version.now c.args.b.now _ c.accounts_with.result (λ i. omega (arith, c.type_inv.b i)) c.in_ok-rows.ensures c.accounts_with.ensures.found

pub returns-clause-only : goal.returns-clause-only
returns-clause-only c = is_only c.args.version.now c.args.b.now _ c.accounts_with.result c.requires c.in_ok-rows.ensures c.accounts_with.ensures.only
