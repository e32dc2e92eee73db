use Rattle.std.proofs.Common.{[], ◌∷◌, ◌++◌, sym, ap, ◌∙◌, arith}
use Rattle.fin_fields.specs.declared.field.Field.{Field}
use Rattle.mt940_out.proofs.Loops.{with-line-more, with-other-more}
use Rattle.mt940_out.proofs.writing.with_notes.Goals as goal
use Rattle.mt940_out.proofs.writing.with_notes.Goals.{then-is_line+in_ok-push_note, else-is_line}

pub loop-f-preserved : goal.loop-f-preserved
loop-f-preserved c =
    let l = c.loop-f in
    let fs = c.args.fields.now in
    let notes = c.args.notes.now in
    let f : Field = c.f-item.result in
    let one = c.in_ok-push.ensures.ok ∙ ap (λ (g : Field). l.all ++ g ∷ []) c.in_ok-copy_field.ensures in
    elim c.if-is_line.branch [
      | then-is_line+in_ok-push_note w ↦ record {
        all =
            rw (w.all-is, w.next-is)
            (with-line-more fs l.f-index f c.f-item.is c.loop-f-test.true notes l.next l.all l.invariant.all c.push.new.self w.push_note.new.fields
            (sym c.is_line.ensures ∙ w.if-is_line.true) one w.in_ok-push_note.ensures);
        few = omega (arith, w.next-is, l.invariant.few);
      }
      | else-is_line w ↦ record {
        all =
            rw (w.all-is, w.next-is)
            (with-other-more fs l.f-index f c.f-item.is c.loop-f-test.true notes l.next l.all l.invariant.all c.push.new.self (sym c.is_line.ensures ∙ w.if-is_line.false) one);
        few = omega (arith, w.next-is, l.invariant.few);
      }
    ]
