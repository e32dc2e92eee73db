use Rattle.std.proofs.Common.{◌∙◌, Ok, sym}
use Rattle.std.proofs.lemmas.Result.{err_from_is_err_and}
use Rattle.fin_contents.proofs.laws.Readable.{given-readable}
use Rattle.mt202cov.specs.Message.{mt202cov_of}
use Rattle.mt202cov.proofs.laws.Amount.{given-payable}
use Rattle.mt202cov.proofs.Complete.{complete}
use Rattle.mt202cov.proofs.Outcome.{accepted, contents-fail, refused, structure-fail}
use Rattle.mt202cov.proofs.verdict.read_mt202cov_lines.Goals as goal

pub returns-in_err-found-clause-message : goal.returns-in_err-found-clause-message
returns-in_err-found-clause-message c =
    let p = err_from_is_err_and c.from_residual.result c.from_residual.ensures.1 in
    rw (p.1, p.2) (structure-fail c.args.t.now c.args.f.now c.in_err-found.field-0.0 c.in_err-found.ensures.fault)

pub returns-in_err-found-clause-complete : goal.returns-in_err-found-clause-complete
returns-in_err-found-clause-complete c = complete c.args.t.now c.args.f.now

pub returns-in_err-m-clause-message : goal.returns-in_err-m-clause-message
returns-in_err-m-clause-message c =
    let p = err_from_is_err_and c.from_residual-in_err-m.result c.from_residual-in_err-m.ensures.1 in
    rw (p.1, p.2) (contents-fail c.args.t.now c.args.f.now c.in_ok-found.found c.in_ok-found.ensures.places c.in_ok-found.ensures.sound c.in_err-m.field-0.0 c.in_err-m.ensures)

pub returns-in_err-m-clause-complete : goal.returns-in_err-m-clause-complete
returns-in_err-m-clause-complete c = complete c.args.t.now c.args.f.now

pub returns-in-Some-clause-message : goal.returns-in-Some-clause-message
returns-in-Some-clause-message c =
    refused c.args.t.now c.args.f.now c.in_ok-found.found c.in_ok-found.ensures.places c.in_ok-found.ensures.sound c.in_ok-m.m c.in_ok-m.ensures c.in-Some.fault (sym c.first_rule.ensures ∙ c.in-Some.is)

pub returns-in-Some-clause-complete : goal.returns-in-Some-clause-complete
returns-in-Some-clause-complete c = complete c.args.t.now c.args.f.now

pub returns-clause-message : goal.returns-clause-message
returns-clause-message c =
    accepted c.args.t.now c.args.f.now c.in_ok-found.found c.in_ok-found.ensures.places c.in_ok-found.ensures.sound c.in_ok-m.m c.in_ok-m.ensures (sym c.first_rule.ensures ∙ c.in-None.is)

pub returns-clause-amount : goal.returns-clause-amount
returns-clause-amount c = given-payable c.args.t.now c.args.f.now (Ok c.in_ok-m.m) (returns-clause-message c)

pub returns-clause-written : goal.returns-clause-written
returns-clause-written c = given-readable mt202cov_of c.args.t.now c.args.f.now (Ok c.in_ok-m.m) (returns-clause-message c)

pub returns-clause-complete : goal.returns-clause-complete
returns-clause-complete c = complete c.args.t.now c.args.f.now
