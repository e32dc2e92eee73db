use Rattle.std.proofs.Common.{◌∙◌, sym}
use Rattle.mt103.proofs.laws.Parts.{no-banks}
use Rattle.mt103.proofs.banks.fill_banks.Goals as goal

pub returns-else-takes_any-clause-value : goal.returns-else-takes_any-clause-value
returns-else-takes_any-clause-value c =
    rw c.clear_banks.ensures (no-banks c.args.tables.now c.args.fields.now c.args.found.now c.args.m.now (sym c.takes_any.ensures ∙ c.if-takes_any.false))
