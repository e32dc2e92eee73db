use Rattle.std.proofs.Common.{List, Ok, sym, ap, ◌∙◌, subst}
use Rattle.std.proofs.lemmas.Result.{err_from_is_err_and}
use Rattle.fin_fields.specs.declared.field.Field.{Field}
use Rattle.fin_layout.specs.inner.Reading.{Fails}
use Rattle.fin_contents.proofs.laws.Readable.{given-readable}
use Rattle.mt950.specs.Page.{mt950_of}
use Rattle.mt940_out.specs.Page.{mt940_of}
use Rattle.mt940_out.proofs.Outcome.{beside-fails, beside-read}
use Rattle.mt940_out.proofs.reading.read_mt940.Goals as goal

pub returns-in_err-page-in-None-clause-message : goal.returns-in_err-page-in-None-clause-message
returns-in_err-page-in-None-clause-message c =
    let p = err_from_is_err_and c.from_residual-in_err-page-in-None.result c.from_residual-in_err-page-in-None.ensures.1 in
    let e = c.in_err-page-in-None.field-0.0 in
    let beside = c.as_slice-in-None.ensures ∙ c.in_ok-beside.ensures.value in
    let fails =
    beside-fails c.args.t.now c.args.f.now c.in_ok-check_places.ensures.sound (sym c.first_bad_note.ensures.value ∙ c.in-None.is) e
    (subst (λ (gs : List Field). Fails e (mt950_of c.args.t.now gs)) beside c.in_err-page-in-None.ensures.message) in
    rw (p.1, p.2) fails

pub returns-clause-message : goal.returns-clause-message
returns-clause-message c =
    let beside = c.as_slice-in-None.ensures ∙ c.in_ok-beside.ensures.value in
    beside-read c.args.t.now c.args.f.now c.in_ok-check_places.ensures.sound (sym c.first_bad_note.ensures.value ∙ c.in-None.is) c.in_ok-page-in-None.page
    c.in_ok-notes_of-in-None.field-0 (ap (mt950_of c.args.t.now) (sym beside) ∙ c.in_ok-page-in-None.ensures.message) c.in_ok-notes_of-in-None.ensures

pub returns-clause-written : goal.returns-clause-written
returns-clause-written c =
    given-readable mt940_of c.args.t.now c.args.f.now (Ok (record { page = c.in_ok-page-in-None.page; notes = c.in_ok-notes_of-in-None.field-0 }))
    (returns-clause-message c)
