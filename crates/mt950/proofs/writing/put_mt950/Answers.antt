use Rattle.std.proofs.Common.{sym, ◌∙◌}
use Rattle.fin_contents.proofs.laws.Back.{some-weaker}
use Rattle.mt950.specs.Writing.{IsBalance}
use Rattle.mt950.proofs.Fit.{fit-950, some-950, text-950}
use Rattle.mt950.proofs.Read.{readable-is}
use Rattle.mt950.proofs.writing.put_mt950.Goals as goal

pub fields_950-requires-clause-opening : goal.fields_950-requires-clause-opening
fields_950-requires-clause-opening c = (readable-is c.args.p.now c.requires).opening

pub fields_950-requires-clause-lines : goal.fields_950-requires-clause-lines
fields_950-requires-clause-lines c = (readable-is c.args.p.now c.requires).lines

pub fields_950-requires-clause-closing : goal.fields_950-requires-clause-closing
fields_950-requires-clause-closing c = (readable-is c.args.p.now c.requires).closing

pub fields_950-requires-clause-available : goal.fields_950-requires-clause-available
fields_950-requires-clause-available c =
    some-weaker _ (IsBalance c.args.p.now.decimals) c.args.p.now.available (readable-is c.args.p.now c.requires).available (λ b h. h.0)

pub put_fields-requires-clause-some : goal.put_fields-requires-clause-some
put_fields-requires-clause-some c = λ e. some-950 c.args.p.now (sym (c.as_slice.ensures ∙ c.in_ok-fields.ensures) ∙ e)

pub put_fields-requires-clause-fit : goal.put_fields-requires-clause-fit
put_fields-requires-clause-fit c = rw (c.as_slice.ensures, c.in_ok-fields.ensures) (fit-950 c.args.p.now c.requires)

pub returns-clause-again : goal.returns-clause-again
returns-clause-again c =
    text-950 c.args.p.now c.put_fields.result c.as_slice.result.now c.requires
    (c.as_slice.ensures ∙ c.in_ok-fields.ensures) c.put_fields.ensures.text c.put_fields.ensures.again
