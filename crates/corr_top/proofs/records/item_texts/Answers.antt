use Rattle.std.proofs.Common.{◌≡◌, ◌+◌, ◌-◌, ◌≤◌, ℕ, List, arith, length, refl, subst, sym}
use Rattle.jrn_codec.specs.Record.{IsEntry}
use Rattle.corr_top.specs.inner.Ship.{AreDue}
use Rattle.corr_top.proofs.CarriedOver.{short_more}
use Rattle.corr_top.proofs.JournalRecords.{adds_entry, adds_last, due_first}
use Rattle.corr_top.proofs.Replying.{get_all}
use Rattle.corr_top.proofs.records.item_texts.Goals as goal

pub loop-place-init : goal.loop-place-init
loop-place-init c =
    let h = c.args.h.now.entries in
    let due = due_first c.args.a.now h c.requires in
    rw (c.new-records.ensures.items, c.changes-rest.ensures) (record { all = refl; due = due; short = λ k d within. absurd (omega (arith, within)) })

pub record_of-requires : goal.record_of-requires
record_of-requires c = get_all IsEntry c.args.h.now.entries (c.loop-place.place - 1) c.get.result.now c.requires.entries c.get.ensures

pub loop-place-preserved : goal.loop-place-preserved
loop-place-preserved c =
    let l = c.loop-place in
    let entries = c.args.h.now.entries in
    let written = c.in_ok-record_of.ensures in
    let pushed = c.in_ok-rest.ensures in
    let from_one : 1 ≤ l.place = omega (arith, l.auto.place) in
    let next : l.place - 1 + 1 ≡ l.place + 1 - 1 = omega (arith, from_one) in
    let short = subst (λ (t : List ℕ). length t ≤ 1048576) (sym written.value) written.few in
    rw (c.in_ok-push.ensures.items) (record {
      all = adds_entry entries _ l.records.items l.rest.now l.place _ _ c.get.result.now _ from_one c.get.ensures written.value pushed.due pushed.added l.invariant.all;
      due = subst (λ (n : ℕ). AreDue n c.in_ok-rest.rest.now) next pushed.due;
      short = short_more _ _ pushed.short short;
    })

pub push_due-requires-2-clause-due : goal.push_due-requires-2-clause-due
push_due-requires-2-clause-due c =
    let l = c.loop-place in
    let here : l.place - 1 ≡ c.len.result = omega (arith, c.loop-place-test.false, c.len-place-end.ensures.count, c.len.ensures.count, l.auto.place, l.auto.place-end) in
    subst (λ (n : ℕ). AreDue n l.rest.now) here l.invariant.due

pub returns-clause-value : goal.returns-clause-value
returns-clause-value c =
    let l = c.loop-place in
    let entries = c.args.h.now.entries in
    let pushed = c.in_ok-push_due.ensures in
    adds_last entries _ l.records.items l.rest.now l.place _ _ c.len.result c.len.ensures.count
    (omega (arith, c.loop-place-test.false, c.len-place-end.ensures.count, c.len.ensures.count)) (omega (arith, c.len-place-end.ensures.count, c.len.ensures.count, l.auto.place-end))
    pushed.due pushed.added l.invariant.all

pub returns-clause-few : goal.returns-clause-few
returns-clause-few c = c.in_ok-push_due.ensures.short
