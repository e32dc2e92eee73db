use Rattle.jrn_codec.proofs.laws.Records.{may_write}
use Rattle.corr_top.proofs.records.change_record.Goals as goal

pub put_change-requires-clause-form : goal.put_change-requires-clause-form
put_change-requires-clause-form c = (may_write c.args.what.now c.requires).0

pub put_change-requires-clause-number : goal.put_change-requires-clause-number
put_change-requires-clause-number c = (may_write c.args.what.now c.requires).1
