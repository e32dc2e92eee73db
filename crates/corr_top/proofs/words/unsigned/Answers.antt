use Rattle.std.proofs.Common.{refl, sym}
use Rattle.ref_tables.proofs.laws.Numbers.{fits, signed-same}
use Rattle.corr_top.proofs.words.unsigned.Goals as goal

pub overflow_cast-result : goal.overflow_cast-result
overflow_cast-result c = fits _ c.in_ok-n.ensures.short

pub returns : goal.returns
returns c = rw (signed-same _ c.in_ok-n.ensures.short, sym c.in_ok-n.ensures.value) refl
