use Rattle.std.proofs.Common.{◌++◌, ap, ◌∙◌}
use Rattle.fin_fields.proofs.Texts.{ended-more}
use Rattle.fin_fields.proofs.writing.put_lines.Goals as goal

pub loop-line-preserved : goal.loop-line-preserved
loop-line-preserved c =
    ended-more c.args.lines.now c.loop-line.line-index c.line-item.result c.args.out.now c.loop-line.out c.push.new.self c.push-in-loop-line.new.self
    c.line-item.is c.loop-line-test.true c.loop-line.invariant (c.in_ok-push.ensures.ok ∙ ap (λ t. c.loop-line.out ++ t) c.bytes.ensures) c.in_ok-push-2.ensures.ok
