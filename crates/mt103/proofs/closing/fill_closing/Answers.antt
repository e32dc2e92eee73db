use Rattle.std.proofs.Common.{◌∙◌, sym}
use Rattle.mt103.proofs.laws.Parts.{no-closing}
use Rattle.mt103.proofs.closing.fill_closing.Goals as goal

pub returns-else-takes_any-clause-value : goal.returns-else-takes_any-clause-value
returns-else-takes_any-clause-value c =
    rw c.clear_closing.ensures (no-closing c.args.tables.now c.args.fields.now c.args.found.now c.args.m.now (sym c.takes_any.ensures ∙ c.if-takes_any.false))
