use Rattle.std.proofs.Common.{◌∙◌, Bool, arith, subst, sym}
use Rattle.std.specs.Bool.{OnTrue}
use Rattle.std.proofs.lemmas.Bool.{false≢true}
use Rattle.std.proofs.lemmas.Result.{err_from_is_err_and}
use Rattle.day_model.specs.Legal.{IsInForm}
use Rattle.jrn_codec.proofs.Changes.{is_found, is_only, is_refused, none_out_of_form}
use Rattle.jrn_codec.proofs.change.read_change.Goals as goal

pub returns-in_err-what-clause-only : goal.returns-in_err-what-clause-only
returns-in_err-what-clause-only c =
    let p = err_from_is_err_and c.from_residual.result c.from_residual.ensures.1 in
    rw (p.1, p.2) (is_refused c.args.b.now c.in_err-what.field-0.0 c.in_err-what.ensures)

pub returns-then-not-is_in_form-clause-only : goal.returns-then-not-is_in_form-clause-only
returns-then-not-is_in_form-clause-only c =
    λ what is spelled.
    none_out_of_form c.args.b.now c.in_ok-what.what what c.in_ok-what.ensures
    (λ form. false≢true (sym c.if-not-is_in_form.true ∙ c.is_in_form.ensures.complete form)) is spelled

pub returns-clause-found : goal.returns-clause-found
returns-clause-found c =
    let form = subst (λ (r : Bool). OnTrue r (IsInForm c.in_ok-what.what)) c.if-not-is_in_form.false c.is_in_form.ensures.sound in
    is_found c.args.b.now c.in_ok-what.what (λ i. omega (arith, c.type_inv.b i)) c.in_ok-what.ensures form

pub returns-clause-only : goal.returns-clause-only
returns-clause-only c = λ what is spelled. is_only c.args.b.now c.in_ok-what.what what c.in_ok-what.ensures is spelled
