use Rattle.std.proofs.Common.{◌∙◌, sym}
use Rattle.mt103.proofs.laws.Parts.{no-info}
use Rattle.mt103.proofs.details.fill_info.Goals as goal

pub returns-else-takes_any : goal.returns-else-takes_any
returns-else-takes_any c = rw c.clear.ensures (no-info c.args.fields.now c.args.found.now (sym c.takes_any.ensures ∙ c.if-takes_any.false))
