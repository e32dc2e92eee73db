use Rattle.std.proofs.Common.{sym, ◌∙◌}
use Rattle.fin_fields.proofs.Formats.{meets_by_each}
use Rattle.fin_fields.proofs.pattern.lines_match.Goals as goal

pub returns-then-fits_count : goal.returns-then-fits_count
returns-then-fits_count c =
    c.all_fit.ensures ∙ meets_by_each c.args.p c.args.lines.now (sym c.fits_count.ensures ∙ c.if-fits_count.true)
