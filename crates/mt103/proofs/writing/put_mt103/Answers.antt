use Rattle.std.proofs.Common.{◌≡◌, ◌∙◌, ap}
use Rattle.std.proofs.lemmas.Result.{IfOk-weaker}
use Rattle.fin_fields.specs.Fields.{fields_of}
use Rattle.mt103.specs.Message.{mt103_of}
use Rattle.mt103.specs.Writing.{mt103_fields}
use Rattle.mt103.proofs.RoundTrip.{fields-fit, mt103-again, some-field, stands}
use Rattle.mt103.proofs.writing.put_mt103.Goals as goal

pub mt103_fields-requires : goal.mt103_fields-requires
mt103_fields-requires c = (stands c.args.m.now c.requires).amounts

pub put_fields-requires-clause-some : goal.put_fields-requires-clause-some
put_fields-requires-clause-some c = rw (c.as_slice.ensures, c.in_ok-fields.ensures) (some-field c.args.m.now)

pub put_fields-requires-clause-fit : goal.put_fields-requires-clause-fit
put_fields-requires-clause-fit c = rw (c.as_slice.ensures, c.in_ok-fields.ensures) (fields-fit c.args.m.now c.requires)

pub returns-clause-again : goal.returns-clause-again
returns-clause-again c =
    let same : c.as_slice.result.now ≡ mt103_fields c.args.m.now = c.as_slice.ensures ∙ c.in_ok-fields.ensures in
    IfOk-weaker c.put_fields.result _ _
    (λ text is t fs e. ap (mt103_of t) (ap fields_of is ∙ (c.put_fields.ensures.again ∙ same)) ∙ mt103-again c.args.m.now c.requires t fs e) c.put_fields.ensures.text
