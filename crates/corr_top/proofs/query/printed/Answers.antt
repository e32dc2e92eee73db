use Rattle.jrn_codec.specs.Record.{IsEntry}
use Rattle.corr_top.proofs.Replying.{get_all}
use Rattle.corr_top.proofs.query.printed.Goals as goal

pub bookings-requires-clause-days : goal.bookings-requires-clause-days
bookings-requires-clause-days c = λ i entry at. (get_all IsEntry c.args.h.now.entries i entry c.requires.journal.entries at).day

pub entries-requires-clause-days : goal.entries-requires-clause-days
entries-requires-clause-days c = λ i entry at. (get_all IsEntry c.args.h.now.entries i entry c.requires.journal.entries at).day

pub entries-requires-clause-values : goal.entries-requires-clause-values
entries-requires-clause-values c = λ i entry at. (get_all IsEntry c.args.h.now.entries i entry c.requires.journal.entries at).pay.value
