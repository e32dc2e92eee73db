use Rattle.std.proofs.Common.{refl}
use Rattle.std.proofs.lemmas.List.{get_or-replicate}
use Rattle.fin_layout.proofs.Noted.{noted-none}
use Rattle.fin_layout.proofs.found.Found.new.Goals as goal

pub invariant_of-result : goal.invariant_of-result
invariant_of-result c = rw c.new.ensures.items (noted-none _ refl (λ k below. get_or-replicate 64 k _ _ below))
