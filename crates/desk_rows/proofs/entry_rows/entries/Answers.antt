use Rattle.std.proofs.Common.{◌≡◌, ◌+◌, ◌-◌, ◌++◌, ap, sym, ◌∙◌, arith}
use Rattle.std.proofs.lemmas.Option.{slice_get_within, get_or_from_slice_get}
use Rattle.day_model.proofs.laws.Fitting.{fitting}
use Rattle.day_model.proofs.laws.Fronts.{fits_now}
use Rattle.corr_report.proofs.laws.LineLists.{numbered_more}
use Rattle.corr_report.proofs.laws.FailingLeg.{names_leg}
use Rattle.desk_rows.specs.Entries.{entry_header, row_between}
use Rattle.desk_rows.proofs.entry_rows.entries.Goals as goal

pub put_if_between-requires-clause-fits : goal.put_if_between-requires-clause-fits
put_if_between-requires-clause-fits c = fits_now c.args.a.now c.args.h.now.entries _ c.get.result.now c.requires.legal c.get.ensures

pub put_if_between-requires-clause-some : goal.put_if_between-requires-clause-some
put_if_between-requires-clause-some c =
    let many = (fitting c.args.a.now c.get.result.now.pay.legs (fits_now c.args.a.now c.args.h.now.entries _ c.get.result.now c.requires.legal c.get.ensures)).many in
    omega (arith, many)

pub put_if_between-requires-clause-leg : goal.put_if_between-requires-clause-leg
put_if_between-requires-clause-leg c = names_leg c.args.a.now c.args.h.now.entries _ c.get.result.now c.requires.legal c.get.ensures

pub put_if_between-requires-clause-day : goal.put_if_between-requires-clause-day
put_if_between-requires-clause-day c = c.requires.days (c.loop-place.place - 1) c.get.result.now c.get.ensures

pub put_if_between-requires-clause-value : goal.put_if_between-requires-clause-value
put_if_between-requires-clause-value c = c.requires.values (c.loop-place.place - 1) c.get.result.now c.get.ensures

pub loop-place-preserved : goal.loop-place-preserved
loop-place-preserved c =
    let l = c.loop-place in
    let row = row_between c.args.a.now c.args.from c.args.until in
    let entries = c.args.h.now.entries in
    let within = slice_get_within entries (l.place - 1) c.get.result.now c.get.ensures in
    let item = get_or_from_slice_get entries (l.place - 1) c.get.result.now c.get.result.now c.get.ensures in
    let next : l.place - 1 + 1 ≡ l.place + 1 - 1 = omega (arith, l.auto.place) in
    let number : l.place - 1 + 1 ≡ l.place = omega (arith, l.auto.place) in
    let line = c.in_ok-put_if_between.ensures ∙ ap (λ entry. l.out ++ row l.place entry) (sym item) in
    numbered_more row entries (l.place - 1) (l.place + 1 - 1) l.place c.get.result.now entry_header l.out _ within next number l.invariant line
