use Rattle.std.proofs.Common.{Ok, sym, ◌∙◌}
use Rattle.std.proofs.lemmas.Result.{err_from_is_err_and}
use Rattle.fin_contents.proofs.laws.Readable.{given-readable}
use Rattle.mt9_advice.specs.Advice.{mt910_of}
use Rattle.mt9_advice.proofs.laws.Amount.{given-payable-910}
use Rattle.mt9_advice.proofs.Outcome.{contents-910, rule-fails, rule-holds, structure-910}
use Rattle.mt9_advice.proofs.laws.Parts.{contents-are-910}
use Rattle.mt9_advice.proofs.credit.read_mt910_lines.Goals as goal

pub returns-in_err-found-clause-message : goal.returns-in_err-found-clause-message
returns-in_err-found-clause-message c =
    let p = err_from_is_err_and c.from_residual.result c.from_residual.ensures.1 in
    let fails = structure-910 c.args.t.now c.args.f.now c.in_err-found.field-0.0 c.in_err-found.ensures.fault in
    rw (p.1, p.2) fails

pub returns-in_err-m-clause-message : goal.returns-in_err-m-clause-message
returns-in_err-m-clause-message c =
    let p = err_from_is_err_and c.from_residual-in_err-m.result c.from_residual-in_err-m.ensures.1 in
    let fails =
    contents-910 c.args.t.now c.args.f.now c.in_ok-found.found c.in_ok-found.ensures.sound
    c.in_ok-found.ensures.places c.in_err-m.field-0.0 c.in_err-m.ensures in
    rw (p.1, p.2) fails

pub returns-in-Some-clause-message : goal.returns-in-Some-clause-message
returns-in-Some-clause-message c =
    rule-fails c.args.t.now c.args.f.now c.in_ok-found.found c.in_ok-found.ensures.sound
    c.in_ok-found.ensures.places c.in_ok-m.m c.in-Some.fault
    (sym (contents-are-910 c.args.t.now c.args.f.now c.in_ok-found.found) ∙ c.in_ok-m.ensures) (sym c.c06.ensures ∙ c.in-Some.is)

pub returns-clause-message : goal.returns-clause-message
returns-clause-message c =
    rule-holds c.args.t.now c.args.f.now c.in_ok-found.found c.in_ok-found.ensures.sound
    c.in_ok-found.ensures.places c.in_ok-m.m
    (sym (contents-are-910 c.args.t.now c.args.f.now c.in_ok-found.found) ∙ c.in_ok-m.ensures) (sym c.c06.ensures ∙ c.in-None.is)

pub returns-clause-amount : goal.returns-clause-amount
returns-clause-amount c = given-payable-910 c.args.t.now c.args.f.now (Ok c.in_ok-m.m) (returns-clause-message c)

pub returns-clause-written : goal.returns-clause-written
returns-clause-written c = given-readable mt910_of c.args.t.now c.args.f.now (Ok c.in_ok-m.m) (returns-clause-message c)
