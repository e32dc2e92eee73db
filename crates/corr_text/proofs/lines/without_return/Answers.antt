use Rattle.std.proofs.Common.{◌-◌, ◌<◌, length, sym, arith}
use Rattle.std.proofs.lemmas.Grind.{common_steps}
use Rattle.corr_text.proofs.Cutting.{trimmed-return, trimmed-other, trimmed-none}
use Rattle.corr_text.proofs.lines.without_return.Goals as goal
use Rattle.corr_text.proofs.lines.without_return.Goals.{else-not-is_empty-via-then-not-is_empty+else-line-eq13, else-not-is_empty-via-else-not-is_empty}

pub returns-then-line-eq13 : goal.returns-then-line-eq13
returns-then-line-eq13 c =
    let some : 0 < length c.args.line.now = grind (arith, common_steps) in
    sym (trimmed-return c.args.line.now (length c.args.line.now - 1) (omega (arith, some)) c.if-line-eq13.true)

pub returns : goal.returns
returns c =
    elim c.else-not-is_empty.branch [
      | else-not-is_empty-via-then-not-is_empty+else-line-eq13 w ↦
          (let some : 0 < length c.args.line.now = grind (arith, common_steps) in
          sym (trimmed-other c.args.line.now (length c.args.line.now - 1) (omega (arith, some)) w.if-line-eq13.false))
      | else-not-is_empty-via-else-not-is_empty w ↦ sym (trimmed-none c.args.line.now (grind (arith, common_steps)))
    ]
