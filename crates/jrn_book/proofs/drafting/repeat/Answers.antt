use Rattle.std.proofs.Common.{◌∙◌, refl, sym}
use Rattle.jrn_book.proofs.drafting.repeat.Goals as goal

pub returns-then-is_same : goal.returns-then-is_same
returns-then-is_same c = λ history first there.
    (record { entry = c.args.e.now; first = first; there = there; is_same = sym c.is_same.ensures ∙ c.if-is_same.true }, refl)
