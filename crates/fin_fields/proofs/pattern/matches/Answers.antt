use Rattle.std.proofs.Common.{sym, ap, ◌∙◌}
use Rattle.fin_fields.specs.Patterns.{meets}
use Rattle.fin_fields.proofs.Formats.{meets_by_each}
use Rattle.fin_fields.proofs.pattern.matches.Goals as goal

pub returns-then-fits_count : goal.returns-then-fits_count
returns-then-fits_count c =
    c.texts_fit.ensures ∙ (meets_by_each c.args.p c.as_slice-lines.result.now (sym c.fits_count.ensures ∙ c.if-fits_count.true) ∙ ap (meets c.args.p) c.as_slice-lines.ensures)
