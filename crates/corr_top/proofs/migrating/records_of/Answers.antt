use Rattle.std.proofs.Common.{◌≤◌, ℕ, List, arith, length, subst, sym}
use Rattle.corr_top.proofs.CarriedOver.{all_done, one_more, short_more}
use Rattle.corr_top.proofs.migrating.records_of.Goals as goal

pub loop-place-preserved : goal.loop-place-preserved
loop-place-preserved c =
    let l = c.loop-place in
    let entries = c.args.h.now.entries in
    let written = c.in_ok-record_of.ensures in
    let from_one : 1 ≤ l.place = omega (arith, l.auto.place) in
    let short = subst (λ (t : List ℕ). length t ≤ 1048576) (sym written.value) written.few in
    rw (c.in_ok-push.ensures.items) (record {
      all = one_more entries l.place c.get.result.now l.records.items _ from_one c.get.ensures written.value l.invariant.all;
      short = short_more l.records.items _ l.invariant.short short;
    })

pub returns-clause-value : goal.returns-clause-value
returns-clause-value c =
    let l = c.loop-place in
    all_done c.args.h.now.entries l.place l.records.items (omega (arith, c.loop-place-test.false, c.len-place-end.ensures.count)) l.invariant.all

pub returns-clause-few : goal.returns-clause-few
returns-clause-few c = c.loop-place.invariant.short
