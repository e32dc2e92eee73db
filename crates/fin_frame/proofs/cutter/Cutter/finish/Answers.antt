use Rattle.std.proofs.Common.{sym, ap, ◌∙◌}
use Rattle.fin_frame.proofs.Ending.{ends-unbalanced, ends-whole}
use Rattle.fin_frame.proofs.cutter.Cutter.finish.Goals as goal

pub returns-in-Some-unbalanced-clause-ends : goal.returns-in-Some-unbalanced-clause-ends
returns-in-Some-unbalanced-clause-ends c fed given was =
    ends-unbalanced c.args.self c.args.out.now fed given c.in-Some-unbalanced.at was c.in_default.is (sym c.unbalanced.ensures ∙ c.in-Some-unbalanced.is)

pub returns-clause-ends : goal.returns-clause-ends
returns-clause-ends c fed given was =
    ends-whole c.args.self c.args.out.now c.give.new.out fed given was c.in_default.is (sym c.unbalanced.ensures ∙ c.in_default-unbalanced.is)
    (ap (λ t. t.given) c.in_ok-give.ensures.ok)
