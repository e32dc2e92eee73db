use Rattle.fin_frame.proofs.WholeFile.{unwhole-no-file}
use Rattle.fin_frame.proofs.whole.message_len.Goals as goal

pub returns-in-Open : goal.returns-in-Open
returns-in-Open c = record {
  whole = tt;
  none = λ none. unwhole-no-file c.args.bytes.now c.message_front.result c.message_front.ensures c.in-Open.is;
}
