use Rattle.std.proofs.Common.{◌∙◌, Ok, sym}
use Rattle.std.proofs.lemmas.Result.{err_from_is_err_and}
use Rattle.fin_contents.proofs.laws.Readable.{given-readable}
use Rattle.mt103.specs.Message.{mt103_of}
use Rattle.mt103.proofs.laws.Amount.{amount-payable}
use Rattle.mt103.proofs.Complete.{complete}
use Rattle.mt103.proofs.Outcome.{all-pass, instrs-fail, place-fail, sound-read, unread}
use Rattle.mt103.proofs.verdict.fill_mt103.Goals as goal

pub returns-in_err-fill_places-clause-message : goal.returns-in_err-fill_places-clause-message
returns-in_err-fill_places-clause-message c =
    let p = err_from_is_err_and c.from_residual.result c.from_residual.ensures.1 in
    rw (p.1, p.2) (place-fail c.args.t.now c.args.f.now c.in_err-fill_places.field-0.0 c.in_err-fill_places.ensures.fault)

pub returns-in_err-fill_places-clause-complete : goal.returns-in_err-fill_places-clause-complete
returns-in_err-fill_places-clause-complete c = complete c.args.t.now c.args.f.now

pub returns-in-Err-clause-message : goal.returns-in-Err-clause-message
returns-in-Err-clause-message c =
    unread c.args.t.now c.args.f.now c.in_ok-fill_places.ensures.sound c.fill_places.new.found c.in_ok-fill_places.ensures.places c.args.m.now c.in-Err.fault c.first_fault.result c.in-Err.ensures.value
    c.first_fault.ensures.lacking c.first_fault.ensures.none

pub returns-in-Err-clause-complete : goal.returns-in-Err-clause-complete
returns-in-Err-clause-complete c = complete c.args.t.now c.args.f.now

pub returns-in-Some-clause-message : goal.returns-in-Some-clause-message
returns-in-Some-clause-message c =
    let sound = sound-read c.args.t.now c.args.f.now c.in_ok-fill_places.ensures.sound c.fill_places.new.found c.in_ok-fill_places.ensures.places c.args.m.now c.fill_contents.new.m c.in_default.ensures.value in
    instrs-fail c.args.t.now c.args.f.now sound c.fill_places.new.found c.in_ok-fill_places.ensures.places c.args.m.now c.fill_contents.new.m c.in_default.ensures.value
    c.as_slice.result.now c.as_slice.ensures c.in-Some.fault (sym c.instructions_fault.ensures ∙ c.in-Some.is)

pub returns-in-Some-clause-complete : goal.returns-in-Some-clause-complete
returns-in-Some-clause-complete c = complete c.args.t.now c.args.f.now

pub returns-in-None-clause-message : goal.returns-in-None-clause-message
returns-in-None-clause-message c =
    let sound = sound-read c.args.t.now c.args.f.now c.in_ok-fill_places.ensures.sound c.fill_places.new.found c.in_ok-fill_places.ensures.places c.args.m.now c.fill_contents.new.m c.in_default.ensures.value in
    all-pass c.args.t.now c.args.f.now sound c.fill_places.new.found c.in_ok-fill_places.ensures.places c.args.m.now c.fill_contents.new.m c.in_default.ensures.value
    c.as_slice.result.now c.as_slice.ensures (sym c.instructions_fault.ensures ∙ c.in-None.is)

pub returns-in-None-clause-amount : goal.returns-in-None-clause-amount
returns-in-None-clause-amount c = amount-payable c.args.t.now c.args.f.now c.fill_contents.new.m (returns-in-None-clause-message c)

pub returns-in-None-clause-written : goal.returns-in-None-clause-written
returns-in-None-clause-written c = given-readable mt103_of c.args.t.now c.args.f.now (Ok c.fill_contents.new.m) (returns-in-None-clause-message c)

pub returns-in-None-clause-complete : goal.returns-in-None-clause-complete
returns-in-None-clause-complete c = complete c.args.t.now c.args.f.now
