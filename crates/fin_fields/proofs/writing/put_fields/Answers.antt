use Rattle.fin_fields.proofs.ReadBack.{no-fault, same-fields}
use Rattle.fin_fields.proofs.Texts.{fields_text-more}
use Rattle.fin_fields.proofs.writing.put_fields.Goals as goal

pub returns-in_err-out-clause-again : goal.returns-in_err-out-clause-again
returns-in_err-out-clause-again c = same-fields c.args.fields.now c.requires.fit

pub returns-in_err-out-clause-sound : goal.returns-in_err-out-clause-sound
returns-in_err-out-clause-sound c = no-fault c.args.fields.now c.requires.some c.requires.fit

pub returns-in_err-put_field-clause-again : goal.returns-in_err-put_field-clause-again
returns-in_err-put_field-clause-again c = same-fields c.args.fields.now c.requires.fit

pub returns-in_err-put_field-clause-sound : goal.returns-in_err-put_field-clause-sound
returns-in_err-put_field-clause-sound c = no-fault c.args.fields.now c.requires.some c.requires.fit

pub loop-f-preserved : goal.loop-f-preserved
loop-f-preserved c = fields_text-more c.args.fields.now c.loop-f.f-index c.f-item.result c.loop-f.out c.put_field.new.out c.f-item.is c.loop-f-test.true c.loop-f.invariant c.in_ok-put_field.ensures

pub returns-clause-again : goal.returns-clause-again
returns-clause-again c = same-fields c.args.fields.now c.requires.fit

pub returns-clause-sound : goal.returns-clause-sound
returns-clause-sound c = no-fault c.args.fields.now c.requires.some c.requires.fit
