use Rattle.std.proofs.Common.{ℕ, ◌-◌, List, ◌++◌, ap, ◌∙◌, sym}
use Rattle.std.proofs.lemmas.Option.{same_Some}
use Rattle.day_model.proofs.laws.Fronts.{fits_now}
use Rattle.corr_report.specs.Bookings.{booking_line}
use Rattle.corr_report.proofs.laws.FailingLeg.{names_leg}
use Rattle.corr_report.proofs.entries.booking.Goals as goal

pub put_line-requires-clause-fits : goal.put_line-requires-clause-fits
put_line-requires-clause-fits c = fits_now c.args.a.now c.args.h.now.entries _ c.get.result.now c.requires.legal c.get.ensures

pub put_line-requires-clause-leg : goal.put_line-requires-clause-leg
put_line-requires-clause-leg c = names_leg c.args.a.now c.args.h.now.entries _ c.get.result.now c.requires.legal c.get.ensures

pub put_line-requires-clause-day : goal.put_line-requires-clause-day
put_line-requires-clause-day c = c.requires.days (c.args.place - 1) c.get.result.now c.get.ensures

pub returns : goal.returns
returns c = λ entry at.
    let same = same_Some c.get.result.now entry (sym c.get.ensures ∙ at) in
    c.in_ok-put_line.ensures
    ∙ ap (λ (front : List ℕ). front ++ booking_line c.args.a.now c.args.place c.get.result.now) c.in_ok-out.ensures
    ∙ ap (booking_line c.args.a.now c.args.place) same
