use Rattle.std.proofs.Common.{◌+◌, ◌-◌, ◌<◌, ◌≤◌, drop, take, length, arith}
use Rattle.std.specs.Prelude.{min}
use Rattle.std.proofs.lemmas.List.{length-take}
use Rattle.std.proofs.lemmas.Option.{slice_get_within}
use Rattle.corr_report.proofs.laws.Rests.{rest_at}
use Rattle.day_model.proofs.laws.Fronts.{fits_now}
use Rattle.corr_top.specs.Out.{entry_out}
use Rattle.corr_top.specs.inner.Serving.{HasPayShape}
use Rattle.corr_top.proofs.Adding.{in_front, none_after, numbered_done, numbered_next}
use Rattle.corr_top.proofs.Replying.{get_all}
use Rattle.corr_top.proofs.Sending.{more-accepted}
use Rattle.corr_top.proofs.outgoing.outgoing.Goals as goal

pub push_orders-requires-clause-fits : goal.push_orders-requires-clause-fits
push_orders-requires-clause-fits c =
    fits_now c.args.a.now c.args.h.now.entries (c.loop-place.place - 1) c.get.result.now c.requires.legal c.get.ensures

pub push_orders-requires-clause-shape : goal.push_orders-requires-clause-shape
push_orders-requires-clause-shape c =
    get_all HasPayShape c.args.h.now.entries (c.loop-place.place - 1) c.get.result.now c.requires.shapes c.get.ensures

pub loop-place-preserved : goal.loop-place-preserved
loop-place-preserved c =
    let l = c.loop-place in
    let chart = c.args.a.now in
    let front = take c.args.until c.args.h.now.entries in
    let one : 1 ≤ l.place = omega (arith, l.invariant.after, c.requires.from) in
    let within : l.place - 1 < c.args.until = omega (arith, c.loop-place-test.true, c.min-place-end.ensures, one) in
    let at = in_front c.args.until c.args.h.now.entries (l.place - 1) c.get.result.now within c.get.ensures in
    record {
      after = omega (arith, l.invariant.after);
      rest = numbered_next (entry_out chart) l.place _ l.out _ c.get.result.now (drop (l.place - 1) front) (drop (l.place + 1 - 1) front)
          (rest_at front l.place c.get.result.now one at) l.invariant.rest c.in_ok-push_orders.ensures.added;
      accepted = λ i e after below here. more-accepted chart c.args.from front l.place c.get.result.now i e one at l.invariant.accepted c.in_ok-push_orders.ensures.accepted after below here;
    }

pub returns-clause-text : goal.returns-clause-text
returns-clause-text c =
    let l = c.loop-place in
    let past : min c.args.until (length c.args.h.now.entries) + 1 ≤ l.place = omega (arith, c.loop-place-test.false, c.min-place-end.ensures, c.len.ensures.count) in
    numbered_done (entry_out c.args.a.now) l.place _ l.out _ (none_after c.args.until c.args.h.now.entries l.place past) l.invariant.rest

pub returns-clause-accepted : goal.returns-clause-accepted
returns-clause-accepted c = λ i e after at.
    let l = c.loop-place in
    let entries = c.args.h.now.entries in
    let front = take c.args.until entries in
    let past : min c.args.until (length entries) + 1 ≤ l.place = omega (arith, c.loop-place-test.false, c.min-place-end.ensures, c.len.ensures.count) in
    let within : i < length front = slice_get_within front i e at in
    l.invariant.accepted i e after (omega (arith, within, past, length-take c.args.until entries)) at
