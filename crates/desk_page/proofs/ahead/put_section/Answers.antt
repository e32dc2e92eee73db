use Rattle.std.proofs.Common.{◌≡◌, ◌<◌, ◌+◌, ◌-◌, ◌++◌, length, sym, ap, ◌∙◌, arith, subst}
use Rattle.std.proofs.lemmas.Option.{slice_get_within, get_or_from_slice_get}
use Rattle.corr_report.proofs.laws.LineLists.{numbered_more}
use Rattle.day_model.specs.declared.entry.Entry.{Entry}
use Rattle.day_model.proofs.laws.Fronts.{fits_now}
use Rattle.desk_page.specs.Ahead.{IsDated, ahead_if}
use Rattle.desk_page.specs.inner.Books.{chart_in, entries_in}
use Rattle.desk_page.specs.Markup.{markup}
use Rattle.desk_page.specs.declared.mark.Piece.TheVariants.{AheadBegin}
use Rattle.desk_page.proofs.ahead.put_section.Goals as goal

pub put_ahead-requires-clause-fits : goal.put_ahead-requires-clause-fits
put_ahead-requires-clause-fits c = fits_now (chart_in c.args.books) (entries_in c.args.books) (c.loop-place.place - 1) c.get.result.now c.requires.sound.legal c.get.ensures

pub put_ahead-requires-clause-dated : goal.put_ahead-requires-clause-dated
put_ahead-requires-clause-dated c =
    let entries = entries_in c.args.books in
    let entry = c.get.result.now in
    subst IsDated (get_or_from_slice_get entries (c.loop-place.place - 1) entry entry c.get.ensures)
    (c.requires.dated (c.loop-place.place - 1) entry (slice_get_within entries (c.loop-place.place - 1) entry c.get.ensures))

pub loop-place-preserved : goal.loop-place-preserved
loop-place-preserved c =
    let l = c.loop-place in
    let entries = entries_in c.args.books in
    let entry = c.get.result.now in
    let row = ahead_if (chart_in c.args.books) c.args.day in
    let within : l.place - 1 < length entries = slice_get_within entries (l.place - 1) entry c.get.ensures in
    let item = get_or_from_slice_get entries (l.place - 1) entry entry c.get.ensures in
    let next : l.place - 1 + 1 ≡ l.place + 1 - 1 = omega (arith, l.auto.place) in
    let number : l.place - 1 + 1 ≡ l.place = omega (arith, l.auto.place) in
    let line = c.in_ok-put_ahead.ensures ∙ ap (λ (e : Entry). l.out ++ row l.place e) (sym item) in
    numbered_more row entries (l.place - 1) (l.place + 1 - 1) l.place entry (c.args.out.now ++ markup AheadBegin) l.out _ within next number l.invariant line
