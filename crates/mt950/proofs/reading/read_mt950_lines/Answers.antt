use Rattle.std.proofs.Common.{Ok, sym, ◌∙◌}
use Rattle.std.proofs.lemmas.Result.{err_from_is_err_and}
use Rattle.fin_contents.proofs.laws.Readable.{given-readable}
use Rattle.mt950.specs.Page.{mt950_of}
use Rattle.mt950.proofs.Outcome.{rule-fails, rules-hold, said-fails, structure-950}
use Rattle.mt950.proofs.reading.read_mt950_lines.Goals as goal

pub returns-in_err-found-clause-message : goal.returns-in_err-found-clause-message
returns-in_err-found-clause-message c =
    let p = err_from_is_err_and c.from_residual.result c.from_residual.ensures.1 in
    let fails = structure-950 c.args.t.now c.args.f.now c.in_err-found.field-0.0 c.in_err-found.ensures.fault in
    rw (p.1, p.2) fails

pub returns-in_err-said-clause-message : goal.returns-in_err-said-clause-message
returns-in_err-said-clause-message c =
    let p = err_from_is_err_and c.from_residual-in_err-said.result c.from_residual-in_err-said.ensures.1 in
    let fails =
    said-fails c.args.t.now c.args.f.now c.in_ok-found.found c.in_ok-found.ensures.sound
    c.in_ok-found.ensures.places c.in_err-said.field-0.0 c.in_err-said.ensures in
    rw (p.1, p.2) fails

pub returns-in-Some-clause-message : goal.returns-in-Some-clause-message
returns-in-Some-clause-message c =
    rule-fails c.args.t.now c.args.f.now c.in_ok-found.found c.in_ok-found.ensures.sound
    c.in_ok-found.ensures.places c.in_ok-said.said c.in-Some.fault c.in_ok-said.ensures
    (sym c.currency_fault.ensures ∙ c.in-Some.is)

pub returns-clause-message : goal.returns-clause-message
returns-clause-message c =
    rw c.page_of.ensures
    (rules-hold c.args.t.now c.args.f.now c.in_ok-found.found c.in_ok-found.ensures.sound
    c.in_ok-found.ensures.places c.in_ok-said.said c.in_ok-said.ensures (sym c.currency_fault.ensures ∙ c.in-None.is))

pub returns-clause-written : goal.returns-clause-written
returns-clause-written c = given-readable mt950_of c.args.t.now c.args.f.now (Ok c.page_of.result) (returns-clause-message c)
