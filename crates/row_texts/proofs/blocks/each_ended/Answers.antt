use Rattle.std.proofs.Common.{◌≡◌, length, arith}
use Rattle.std.proofs.lemmas.Grind.{common_steps}
use Rattle.row_texts.proofs.Lines.{copy-more, copy-all}
use Rattle.row_texts.proofs.blocks.each_ended.Goals as goal

pub loop-rest-preserved : goal.loop-rest-preserved
loop-rest-preserved c =
    copy-more c.loop-rest.invariant c.first_line-cut.result.line.now c.first_line-cut.result.rest.now c.push.new.self c.push-in-loop-rest.new.self
    c.first_line-cut.ensures.cut c.in_ok-push.ensures.ok c.in_ok-push-2.ensures.ok

pub returns : goal.returns
returns c =
    let none : length c.loop-rest.rest.now ≡ 0 = grind (arith, common_steps) in
    copy-all c.loop-rest.invariant none
