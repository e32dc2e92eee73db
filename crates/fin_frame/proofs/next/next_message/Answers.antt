use Rattle.std.proofs.Common.{◌<◌, ◌-◌, length, take, drop, sym, ap, ◌∙◌, subst, arith}
use Rattle.std.proofs.lemmas.List.{take_rest}
use Rattle.std.proofs.lemmas.Bool.Decides.{nat_tests}
use Rattle.fin_frame.specs.inner.Next.{AreFaulty}
use Rattle.fin_frame.specs.Shown.{is_over}
use Rattle.fin_frame.proofs.PieceFile.{apart-faulty, after-faulty, ends-faulty, over-faulty}
use Rattle.fin_frame.proofs.next.next_message.Goals as goal
use Rattle.fin_frame.proofs.next.next_message.Goals.{else-is_part-via-then-is_part+else-not-last, else-is_part-via-else-is_part}

pub returns-else-is_part : goal.returns-else-is_part
returns-else-is_part c =
    apart-faulty c.args.last c.args.bytes.now c.requires.some (sym c.is_led.ensures ∙ c.if-not-is_led.true)
    (λ part. elim c.else-is_part.branch [
      | else-is_part-via-then-is_part+else-not-last w ↦ w.if-not-last.false
      | else-is_part-via-else-is_part w ↦ absurd (c.is_part.ensures.other w.if-is_part.false part)
    ])

pub returns-else-is_over : goal.returns-else-is_over
returns-else-is_over c =
    let bytes = c.args.bytes.now in
    let len = c.in-Whole.len in
    let front = c.in-Whole.ensures in
    let same = take_rest bytes len in
    let some : 0 < length (take (length bytes - len) (drop len bytes)) = grind (arith, nat_tests, c.is_empty.ensures, c.if-is_empty.false) in
    after-faulty c.args.last bytes len front.1 (subst (λ x. 0 < length x) same some) front.2 (ap is_over (sym same) ∙ sym c.is_over.ensures ∙ c.if-is_over.false)

pub returns-then-last-2 : goal.returns-then-last-2
returns-then-last-2 c = subst (λ l. AreFaulty l c.args.bytes.now) (sym c.if-last-2.true) (ends-faulty c.in-Open.ensures)

pub returns-in-Long : goal.returns-in-Long
returns-in-Long c = over-faulty c.args.last c.args.bytes.now c.in-Long.ensures
