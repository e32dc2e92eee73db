use Rattle.std.proofs.Common.{sym, ap, ◌∙◌, subst}
use Rattle.std.specs.Prelude.{All}
use Rattle.fin_contents.proofs.laws.Back.{some-weaker}
use Rattle.fin_fields.specs.Writing.{IsField}
use Rattle.mt950.specs.Writing.{IsBalance}
use Rattle.mt950.proofs.laws.Pages.{readable-page}
use Rattle.mt940_out.specs.Writing.{with_notes}
use Rattle.mt940_out.proofs.Rounds.{page-fit, some-noted}
use Rattle.mt940_out.proofs.writing.put_noted.Goals as goal

pub fields_950-requires-clause-opening : goal.fields_950-requires-clause-opening
fields_950-requires-clause-opening c = (readable-page c.args.page.now c.requires.readable).opening

pub fields_950-requires-clause-lines : goal.fields_950-requires-clause-lines
fields_950-requires-clause-lines c = (readable-page c.args.page.now c.requires.readable).lines

pub fields_950-requires-clause-closing : goal.fields_950-requires-clause-closing
fields_950-requires-clause-closing c = (readable-page c.args.page.now c.requires.readable).closing

pub fields_950-requires-clause-available : goal.fields_950-requires-clause-available
fields_950-requires-clause-available c =
    let page = c.args.page.now in
    some-weaker _ (IsBalance page.decimals) page.available (readable-page page c.requires.readable).available (λ b h. h.0)

pub put_fields-requires-clause-some : goal.put_fields-requires-clause-some
put_fields-requires-clause-some c =
    let all = c.as_slice-2.ensures ∙ c.in_ok-all.ensures ∙ ap (with_notes c.args.notes.now) (c.as_slice.ensures ∙ c.in_ok-fields.ensures) in
    λ e. some-noted c.args.page.now c.args.notes.now (sym all ∙ e)

pub put_fields-requires-clause-fit : goal.put_fields-requires-clause-fit
put_fields-requires-clause-fit c =
    let all = c.as_slice-2.ensures ∙ c.in_ok-all.ensures ∙ ap (with_notes c.args.notes.now) (c.as_slice.ensures ∙ c.in_ok-fields.ensures) in
    subst (All IsField) (sym all) (page-fit c.args.page.now c.args.notes.now c.requires.readable c.requires.notes)
