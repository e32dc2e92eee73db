use Rattle.std.proofs.Common.{◌+◌, ◌<◌, ◌≤◌, arith, length}
use Rattle.day_model.specs.Chart.{accounts_of}
use Rattle.std.proofs.lemmas.Option.{slice_get_within}
use Rattle.corr_report.proofs.laws.Rests.{rest_none}
use Rattle.corr_top.specs.Statements.{pages_sent}
use Rattle.corr_top.proofs.Adding.{numbered_done}
use Rattle.corr_top.proofs.Printing.{next-text, next-valid}
use Rattle.corr_top.proofs.statements.statements.Goals as goal

pub push_pages-requires-clause-index : goal.push_pages-requires-clause-index
push_pages-requires-clause-index c =
    record { is = c.in_ok-index.ensures; shaped = c.requires.shapes; home = c.requires.home; century = c.requires.day }

pub loop-n-preserved : goal.loop-n-preserved
loop-n-preserved c =
    let l = c.loop-n in
    let chart = c.args.a.now in
    let entries = c.args.h.now.entries in
    let last : l.n ≤ length (accounts_of chart) = omega (arith, c.loop-n-test.true, c.count-n-end.ensures.count) in
    let adds = c.in_ok-push_pages.ensures in
    record {
      from_one = omega (arith, l.invariant.from_one);
      rest = next-text c.args.owners chart entries c.args.day l.n _ l.out _ l.invariant.from_one last l.invariant.rest adds;
      valid = next-valid c.args.owners chart entries c.args.day l.n l.out _ l.invariant.from_one l.invariant.valid adds;
    }

pub returns-clause-text : goal.returns-clause-text
returns-clause-text c =
    let l = c.loop-n in
    let chart = c.args.a.now in
    let past : length (accounts_of chart) + 1 ≤ l.n = omega (arith, c.loop-n-test.false, c.count-n-end.ensures.count) in
    numbered_done (pages_sent c.args.owners chart c.args.h.now.entries c.args.day) l.n _ l.out _ (rest_none (accounts_of chart) l.n past) l.invariant.rest

pub returns-clause-valid : goal.returns-clause-valid
returns-clause-valid c = λ i account at theirs.
    let l = c.loop-n in
    let chart = c.args.a.now in
    let past : length (accounts_of chart) + 1 ≤ l.n = omega (arith, c.loop-n-test.false, c.count-n-end.ensures.count) in
    let within : i < length (accounts_of chart) = slice_get_within (accounts_of chart) i account at in
    l.invariant.valid i account (omega (arith, within, past)) at theirs
