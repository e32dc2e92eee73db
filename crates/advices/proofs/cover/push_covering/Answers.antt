use Rattle.std.proofs.Common.{◌∙◌, append_assoc}
use Rattle.advices.proofs.cover.push_covering.Goals as goal

pub returns : goal.returns
returns c =
    c.in_ok-push-2.ensures.ok
    ∙ rw (c.in_ok-push.ensures.ok, c.in_ok-push_references.ensures, c.in_ok-put_value.ensures.field, c.in_ok-bank_field.ensures) (simp append_assoc)
