use Rattle.std.proofs.Common.{sym, ◌∙◌}
use Rattle.mt9_advice.proofs.Written.{fit-900, some-900, text-900, value-900}
use Rattle.mt9_advice.proofs.writing.put_mt900.Goals as goal

pub fields_900-requires : goal.fields_900-requires
fields_900-requires c = value-900 c.args.m.now c.requires

pub put_fields-requires-clause-some : goal.put_fields-requires-clause-some
put_fields-requires-clause-some c = λ e. some-900 c.args.m.now (sym (c.as_slice.ensures ∙ c.in_ok-fields.ensures) ∙ e)

pub put_fields-requires-clause-fit : goal.put_fields-requires-clause-fit
put_fields-requires-clause-fit c = rw (c.as_slice.ensures, c.in_ok-fields.ensures) (fit-900 c.args.m.now c.requires)

pub returns-clause-again : goal.returns-clause-again
returns-clause-again c =
    text-900 c.args.m.now c.put_fields.result c.as_slice.result.now c.requires
    (c.as_slice.ensures ∙ c.in_ok-fields.ensures) c.put_fields.ensures.text c.put_fields.ensures.again
