use Rattle.std.proofs.Common.{◌≡◌, refl, ap, ◌∙◌, arith, ℤ, ◌+ℤ◌, to_z, of_z, w64}
use Rattle.std.proofs.lemmas.Int.{to_z-of_z}
use Rattle.std.proofs.lemmas.Option.{slice_get_read}
use Rattle.day_model.specs.declared.account.Account.{Account}
use Rattle.day_model.specs.inner.Gap.{sum_in}
use Rattle.day_model.proofs.Openings.{sums_fit, sums_more}
use Rattle.day_model.proofs.gap.opening_sums.Goals as goal

pub overflow_add-sums : goal.overflow_add-sums
overflow_add-sums c =
    let rows = c.args.rows.now in
    let row : Account = c.row-item.result in
    let here = slice_get_read rows _ c.loop-row.row-index row refl c.loop-row-test.true c.row-item.is in
    let was : c.or_insert.result.now ≡ sum_in c.loop-row.sums.entries row.ccy = rw (c.or_insert.ensures.value, c.in_ok-sums.ensures.value) refl in
    let fit = sums_fit rows c.loop-row.row-index row c.loop-row.sums.entries _ c.requires.limited c.requires.apart.few here c.loop-row-test.true c.loop-row.invariant was in
    rw (fit.sum, fit.opening) fit.together

pub loop-row-preserved : goal.loop-row-preserved
loop-row-preserved c =
    let rows = c.args.rows.now in
    let i = c.loop-row.row-index in
    let row : Account = c.row-item.result in
    let here = slice_get_read rows _ i row refl c.loop-row-test.true c.row-item.is in
    let was : c.or_insert.result.now ≡ sum_in c.loop-row.sums.entries row.ccy = rw (c.or_insert.ensures.value, c.in_ok-sums.ensures.value) refl in
    let fit = sums_fit rows i row c.loop-row.sums.entries _ c.requires.limited c.requires.apart.few here c.loop-row-test.true c.loop-row.invariant was in
    let put = to_z w64 (of_z w64 (to_z w64 (of_z w64 c.or_insert.result.now) +ℤ to_z w64 (of_z w64 row.opening))) in
    let is : put ≡ sum_in c.loop-row.sums.entries row.ccy +ℤ row.opening = rw (fit.sum, fit.opening) (to_z-of_z w64 _ fit.together) ∙ ap (λ (z : ℤ). z +ℤ row.opening) was in
    let updated = c.in_ok-sums.ensures.update.0 put in
    sums_more rows i row c.loop-row.sums.entries _ put c.row-item.is c.loop-row-test.true c.loop-row.invariant is (λ key. let written = updated.0 key in grind arith)
