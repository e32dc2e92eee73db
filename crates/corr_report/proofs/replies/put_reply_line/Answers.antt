use Rattle.day_model.proofs.laws.Fronts.{fits_now}
use Rattle.corr_report.proofs.laws.FailingLeg.{names_leg}
use Rattle.corr_report.proofs.replies.put_reply_line.Goals as goal

pub put_entry-requires-clause-fits : goal.put_entry-requires-clause-fits
put_entry-requires-clause-fits c = fits_now c.args.a.now c.args.h.now.entries _ c.get.result.now c.requires.legal c.get.ensures

pub put_entry-requires-clause-leg : goal.put_entry-requires-clause-leg
put_entry-requires-clause-leg c = names_leg c.args.a.now c.args.h.now.entries _ c.get.result.now c.requires.legal c.get.ensures
