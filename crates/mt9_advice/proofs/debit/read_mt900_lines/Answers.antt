use Rattle.std.proofs.lemmas.Result.{err_from_is_err_and}
use Rattle.fin_contents.proofs.laws.Readable.{given-readable}
use Rattle.mt9_advice.specs.Advice.{mt900_of}
use Rattle.mt9_advice.proofs.laws.Amount.{given-payable-900}
use Rattle.mt9_advice.proofs.Outcome.{gives-900, structure-900}
use Rattle.mt9_advice.proofs.debit.read_mt900_lines.Goals as goal

pub returns-in_err-found-clause-message : goal.returns-in_err-found-clause-message
returns-in_err-found-clause-message c =
    let p = err_from_is_err_and c.from_residual.result c.from_residual.ensures.1 in
    let fails = structure-900 c.args.t.now c.args.f.now c.in_err-found.field-0.0 c.in_err-found.ensures.fault in
    rw (p.1, p.2) fails

pub returns-clause-message : goal.returns-clause-message
returns-clause-message c =
    gives-900 c.args.t.now c.args.f.now c.in_ok-found.found c.read_contents.result c.in_ok-found.ensures.sound
    c.in_ok-found.ensures.places c.read_contents.ensures

pub returns-clause-amount : goal.returns-clause-amount
returns-clause-amount c = given-payable-900 c.args.t.now c.args.f.now _ (returns-clause-message c)

pub returns-clause-written : goal.returns-clause-written
returns-clause-written c = given-readable mt900_of c.args.t.now c.args.f.now _ (returns-clause-message c)
