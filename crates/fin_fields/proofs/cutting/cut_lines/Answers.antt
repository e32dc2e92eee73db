use Rattle.std.proofs.Common.{◌≡◌, ◌∙◌, None, ap, sym, arith}
use Rattle.fin_fields.specs.Fields.{fields_of}
use Rattle.fin_fields.specs.Faults.{outside_x}
use Rattle.corr_text.specs.Lines.{lines_of}
use Rattle.fin_fields.proofs.laws.Bounds.{fields-few}
use Rattle.fin_fields.proofs.Fit.{all-fit, some-fields}
use Rattle.fin_fields.proofs.Plain.{no-fault, none-outside}
use Rattle.fin_fields.proofs.cutting.cut_lines.Goals as goal

pub returns-then-read-clause-fields : goal.returns-then-read-clause-fields
returns-then-read-clause-fields c =
    let read = c.in_ok-read.ensures in
    (no-fault c.args.text.now read.sound (read.plain c.if-read.true), read.fields)

pub returns-then-read-clause-fit : goal.returns-then-read-clause-fit
returns-then-read-clause-fit c =
    let read = c.in_ok-read.ensures in
    let none : outside_x (fields_of c.args.text.now) ≡ None = none-outside c.args.text.now (read.plain c.if-read.true) in
    rw read.fields (some-fields (lines_of c.args.text.now) read.sound, all-fit (lines_of c.args.text.now) read.sound none)

pub first_outside_x-requires : goal.first_outside_x-requires
first_outside_x-requires c =
    let same : c.as_slice.result.now ≡ fields_of c.args.text.now = c.as_slice.ensures ∙ c.in_ok-read.ensures.fields in
    rw same (omega (arith, fields-few (lines_of c.args.text.now)))

pub returns-clause-fit : goal.returns-clause-fit
returns-clause-fit c =
    let read = c.in_ok-read.ensures in
    let same : c.as_slice.result.now ≡ fields_of c.args.text.now = c.as_slice.ensures ∙ read.fields in
    let none : outside_x (fields_of c.args.text.now) ≡ None = ap outside_x (sym same) ∙ (sym c.first_outside_x.ensures ∙ c.in-None.is) in
    rw read.fields (some-fields (lines_of c.args.text.now) read.sound, all-fit (lines_of c.args.text.now) read.sound none)
