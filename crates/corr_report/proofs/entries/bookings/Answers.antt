use Rattle.std.proofs.Common.{◌≡◌, ◌+◌, ◌-◌, [], ◌++◌, ap, sym, ◌∙◌, arith}
use Rattle.std.proofs.lemmas.Option.{slice_get_within, get_or_from_slice_get}
use Rattle.day_model.proofs.laws.Fronts.{fits_now}
use Rattle.corr_report.specs.Bookings.{booking_line}
use Rattle.corr_report.proofs.laws.FailingLeg.{names_leg}
use Rattle.corr_report.proofs.laws.LineLists.{numbered_more}
use Rattle.corr_report.proofs.entries.bookings.Goals as goal

pub put_line-requires-clause-fits : goal.put_line-requires-clause-fits
put_line-requires-clause-fits c = fits_now c.args.a.now c.args.h.now.entries _ c.get.result.now c.requires.legal c.get.ensures

pub put_line-requires-clause-leg : goal.put_line-requires-clause-leg
put_line-requires-clause-leg c = names_leg c.args.a.now c.args.h.now.entries _ c.get.result.now c.requires.legal c.get.ensures

pub put_line-requires-clause-day : goal.put_line-requires-clause-day
put_line-requires-clause-day c = c.requires.days (c.loop-place.place - 1) c.get.result.now c.get.ensures

pub loop-place-preserved : goal.loop-place-preserved
loop-place-preserved c =
    let l = c.loop-place in
    let entries = c.args.h.now.entries in
    let within = slice_get_within entries (l.place - 1) c.get.result.now c.get.ensures in
    let item = get_or_from_slice_get entries (l.place - 1) c.get.result.now c.get.result.now c.get.ensures in
    let next : l.place - 1 + 1 ≡ l.place + 1 - 1 = omega (arith, l.auto.place) in
    let number : l.place - 1 + 1 ≡ l.place = omega (arith, l.auto.place) in
    let line = c.in_ok-put_line.ensures ∙ ap (λ entry. l.out ++ booking_line c.args.a.now l.place entry) (sym item) in
    numbered_more (booking_line c.args.a.now) entries (l.place - 1) (l.place + 1 - 1) l.place c.get.result.now [] l.out _ within next number l.invariant line
