use Rattle.std.proofs.Common.{List, arith, ap, length, refl, subst}
use Rattle.std.proofs.lemmas.List.Elements.{All-head}
use Rattle.day_model.specs.declared.change.Change.{Change}
use Rattle.jrn_codec.specs.Change.{IsWhat}
use Rattle.corr_top.specs.inner.Ship.{AreDue}
use Rattle.corr_top.proofs.CarriedOver.{short_more}
use Rattle.corr_top.proofs.JournalRecords.{adds_change, due_later, due_rest}
use Rattle.corr_top.proofs.records.push_due.Goals as goal

pub loop-what-init : goal.loop-what-init
loop-what-init c = record { added = λ entries. refl; due = c.requires.due; short = c.requires.short }

pub change_record-requires : goal.change_record-requires
change_record-requires c =
    let due = subst (λ (l : List Change). AreDue c.args.after l) c.in-Some.ensures.some c.loop-what.invariant.due in
    All-head (λ (d : Change). IsWhat d.what) _ _ due.written

pub loop-what-preserved : goal.loop-what-preserved
loop-what-preserved c =
    let l = c.loop-what in
    let is = c.in-Some.ensures.some in
    let due = subst (λ (cs : List Change). AreDue c.args.after cs) is l.invariant.due in
    let written = c.in_ok-change_record.ensures in
    rw (c.in_ok-push.ensures.items) (record {
      added = adds_change c.args.after _ c.args.changes.now l.records.items l.rest.now _ _ _ is written.value l.invariant.added;
      due = due_rest c.args.after _ _ due;
      short = short_more l.records.items _ l.invariant.short written.few;
    })

pub loop-what-smaller : goal.loop-what-smaller
loop-what-smaller c = omega (arith, ap length c.in-Some.ensures.some)

pub returns-clause-due : goal.returns-clause-due
returns-clause-due c = due_later c.args.after _ c.loop-what.invariant.due c.in_default.ensures.none
