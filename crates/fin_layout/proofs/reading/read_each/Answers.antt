use Rattle.std.proofs.Common.{◌≡◌, ◌==◌, true, false, arith, get_or}
use Rattle.std.proofs.lemmas.Result.{err_from_is_err_and}
use Rattle.std.proofs.lemmas.Bool.Decides.{nat_tests}
use Rattle.fin_layout.proofs.InTurn.{all-more, all-other, all-stop, all-end, placed-ok, placed-err}
use Rattle.fin_layout.proofs.laws.ReadBack.{all-few}
use Rattle.fin_layout.proofs.reading.read_each.Goals as goal
use Rattle.fin_layout.proofs.reading.read_each.Goals.{then-taken-place+in_ok-locate+in_ok-push, else-taken-place}

pub returns-in_err-locate-clause-value : goal.returns-in_err-locate-clause-value
returns-in_err-locate-clause-value g c =
    let p = err_from_is_err_and c.from_residual.result c.from_residual.ensures.1 in
    let f = c.index-fields-at.result in
    let fails = placed-err c.args.fields.now c.loop-at.at c.read-read.result (g.C.Content.meaning c.args.content.now f) c.locate.result c.in_err-locate.field-0.0 c.read-read.ensures c.locate.ensures c.in_err-locate.was in
    let here : (get_or c.args.found.now c.loop-at.at 0 == c.args.place) ≡ true = grind (arith, nat_tests) in
    rw (p.1, p.2) (all-stop c.loop-at.invariant f c.index-fields-at.is c.loop-at-test.true c.requires.each 0 _ here fails)

pub loop-at-preserved : goal.loop-at-preserved
loop-at-preserved g c =
    elim c.if-taken-place.branch [
      | then-taken-place+in_ok-locate+in_ok-push w ↦
          let f = w.index-fields-at.result in
          let ok = placed-ok c.args.fields.now c.loop-at.at w.read-read.result (g.C.Content.meaning c.args.content.now f) w.locate.result _ w.read-read.ensures w.locate.ensures w.in_ok-locate.was in
          let here : (get_or c.args.found.now c.loop-at.at 0 == c.args.place) ≡ true = grind (arith, nat_tests) in
          let more = all-more c.loop-at.invariant f w.index-fields-at.is c.loop-at-test.true c.requires.each 0 _ here ok in
          rw (w.all-is, w.in_ok-push.ensures.ok) more
      | else-taken-place w ↦
          let other : (get_or c.args.found.now c.loop-at.at 0 == c.args.place) ≡ false = grind (arith, nat_tests) in
          rw w.all-is (all-other c.loop-at.invariant c.loop-at-test.true c.requires.each 0 other)
    ]

pub returns-clause-value : goal.returns-clause-value
returns-clause-value g c = all-end c.loop-at.invariant c.loop-at-test.false

pub returns-clause-few : goal.returns-clause-few
returns-clause-few g c = all-few c.args.fields.now c.args.place (g.C.Content.meaning c.args.content.now) 0 c.args.found.now c.args.fields.now _ (all-end c.loop-at.invariant c.loop-at-test.false)
