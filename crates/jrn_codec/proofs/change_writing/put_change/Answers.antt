use Rattle.jrn_codec.proofs.ChangeWriting.{is_short}
use Rattle.jrn_codec.proofs.change_writing.put_change.Goals as goal

pub returns-else-is_err-clause-few : goal.returns-else-is_err-clause-few
returns-else-is_err-clause-few c = is_short c.args.c.now c.put_what-written.result c.put_what-written.ensures.what
