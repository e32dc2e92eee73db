use Rattle.std.proofs.Common.{◌≡◌, ◌∙◌, ap}
use Rattle.std.proofs.lemmas.Result.{IfOk-weaker}
use Rattle.fin_fields.specs.Fields.{fields_of}
use Rattle.mt202cov.specs.Message.{mt202cov_of}
use Rattle.mt202cov.specs.Writing.{mt202cov_fields}
use Rattle.mt202cov.proofs.RoundTrip.{amounts-of, fields-fit, read-again, some-fields}
use Rattle.mt202cov.proofs.writing.put_mt202cov.Goals as goal

pub mt202cov_fields-requires : goal.mt202cov_fields-requires
mt202cov_fields-requires c = amounts-of c.args.m.now c.requires

pub put_fields-requires-clause-some : goal.put_fields-requires-clause-some
put_fields-requires-clause-some c = rw (c.as_slice.ensures, c.in_ok-fields.ensures) (some-fields c.args.m.now)

pub put_fields-requires-clause-fit : goal.put_fields-requires-clause-fit
put_fields-requires-clause-fit c = rw (c.as_slice.ensures, c.in_ok-fields.ensures) (fields-fit c.args.m.now c.requires)

pub returns-clause-again : goal.returns-clause-again
returns-clause-again c =
    let same : c.as_slice.result.now ≡ mt202cov_fields c.args.m.now = c.as_slice.ensures ∙ c.in_ok-fields.ensures in
    IfOk-weaker c.put_fields.result _ _
    (λ text is t fs e. ap (mt202cov_of t) (ap fields_of is ∙ (c.put_fields.ensures.again ∙ same)) ∙ read-again t fs c.args.m.now (amounts-of c.args.m.now c.requires) e) c.put_fields.ensures.text
