use Rattle.std.proofs.Common.{refl, sym}
use Rattle.ref_tables.proofs.laws.Numbers.{fits, signed-same}
use Rattle.ref_tables.proofs.columns.unsigned.Goals as goal

pub overflow_cast-result : goal.overflow_cast-result
overflow_cast-result c = fits _ c.in_ok-n.ensures.short

pub returns : goal.returns
returns c = rw (signed-same _ c.in_ok-n.ensures.short, sym c.in_ok-n.ensures.value) refl
