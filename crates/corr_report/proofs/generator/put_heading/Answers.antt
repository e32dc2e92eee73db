use Rattle.std.proofs.Common.{append_assoc, ◌∙◌}
use Rattle.corr_report.specs.Generated.{generated_heading}
use Rattle.corr_report.proofs.generator.put_heading.Goals as goal

pub returns : goal.returns
unfolding generated_heading
returns c =
    c.in_ok-push-5.ensures.ok
    ∙ rw (c.in_ok-put_digits-2.ensures.ok, c.in_ok-push-4.ensures.ok, c.in_ok-push-3.ensures.ok, c.sender_of.ensures, c.in_ok-push-2.ensures.ok, c.in_ok-put_digits.ensures.ok, c.in_ok-push.ensures.ok) (simp append_assoc)
