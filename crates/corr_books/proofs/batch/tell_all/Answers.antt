use Rattle.std.proofs.Common.{ℕ, List, length, ◌∙◌, ap, subst, sym}
use Rattle.day_model.specs.declared.entry.Entry.{Entry}
use Rattle.front_word.specs.Rule.{IsNumber}
use Rattle.corr_books.proofs.Telling.{all_told, ends_here, is_next, none_told, one_told, some_room}
use Rattle.corr_books.proofs.batch.tell_all.Goals as goal

pub loop-at-init : goal.loop-at-init
loop-at-init g c = none_told c.args.day c.args.w.now c.args.pass.now g.B.Batch.pays c.args.answers.now c.requires.places c.requires.pays c.requires.room

pub tell-requires-clause-table : goal.tell-requires-clause-table
tell-requires-clause-table g c =
    let t = c.loop-at.invariant in
    (c.requires.table.0 ∙ sym t.writer.table, c.requires.table.1 ∙ sym t.pass_same.table)

pub tell-requires-clause-owed : goal.tell-requires-clause-owed
tell-requires-clause-owed g c = c.loop-at.invariant.writer.owed ∙ c.requires.owed

pub tell-requires-clause-number : goal.tell-requires-clause-number
tell-requires-clause-number g c =
    let t = c.loop-at.invariant in
    subst (λ (x : ℕ × ℕ). IsNumber x.0 x.1) (λ i. (sym t.writer.made i, sym t.pass_same.number i)) c.requires.number

pub tell-requires-clause-base : goal.tell-requires-clause-base
tell-requires-clause-base g c =
    let t = c.loop-at.invariant in
    t.pass_same.base ∙ c.requires.base ∙ sym (ap (λ (es : List Entry). length es) t.writer.base)

pub tell-requires-clause-place : goal.tell-requires-clause-place
tell-requires-clause-place g c =
    is_next c.args.day c.args.w.now c.args.pass.now g.B.Batch.pays c.args.answers.now c.loop-at.at c.loop-at.w c.loop-at.pass _ c.requires.pays c.loop-at-test.true c.loop-at.invariant

pub tell-requires-clause-room : goal.tell-requires-clause-room
tell-requires-clause-room g c =
    some_room c.args.day c.args.w.now c.args.pass.now g.B.Batch.pays c.args.answers.now c.loop-at.at c.loop-at.w c.loop-at.pass c.loop-at-test.true c.loop-at.invariant

pub loop-at-preserved : goal.loop-at-preserved
loop-at-preserved g c =
    one_told c.args.day c.args.w.now c.args.pass.now g.B.Batch.pays c.args.answers.now c.loop-at.at c.loop-at.w c.loop-at.pass _ c.requires.pays c.loop-at-test.true c.loop-at.invariant
    c.tell.new.w c.tell.new.pass c.tell.ensures.writer c.tell.ensures.pass (sym c.stops_batch.ensures ∙ c.if-stops_batch.false) c.tell.ensures.left

pub returns-then-stops_batch : goal.returns-then-stops_batch
returns-then-stops_batch g c =
    ends_here c.args.day c.args.w.now c.args.pass.now g.B.Batch.pays c.args.answers.now c.loop-at.at c.loop-at.w c.loop-at.pass _ c.requires.pays c.loop-at-test.true c.loop-at.invariant
    c.tell.new.w c.tell.new.pass c.tell.ensures.writer c.tell.ensures.pass (sym c.stops_batch.ensures ∙ c.if-stops_batch.true)

pub returns : goal.returns
returns g c =
    all_told c.args.day c.args.w.now c.args.pass.now g.B.Batch.pays c.args.answers.now c.loop-at.at c.loop-at.w c.loop-at.pass c.requires.pays c.loop-at-test.false c.loop-at.invariant
