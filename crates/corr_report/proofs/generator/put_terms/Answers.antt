use Rattle.std.proofs.Common.{append_assoc, ◌∙◌}
use Rattle.corr_report.specs.Generated.{generated_terms}
use Rattle.corr_report.proofs.generator.put_terms.Goals as goal

pub returns : goal.returns
unfolding generated_terms
returns c =
    c.in_ok-push-4.ensures.ok
    ∙ rw (c.in_ok-put_15d.ensures.ok, c.decimals_of.ensures.value, c.in_ok-push-3.ensures.ok, c.ccy_of.ensures, c.in_ok-push-2.ensures.ok, c.in_ok-put_digits.ensures.ok, c.in_ok-push.ensures.ok) (simp append_assoc)
