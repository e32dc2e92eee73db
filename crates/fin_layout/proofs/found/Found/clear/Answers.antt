use Rattle.std.proofs.Common.{refl}
use Rattle.std.proofs.lemmas.List.{get_or-replicate}
use Rattle.fin_layout.proofs.Noted.{noted-none}
use Rattle.fin_layout.proofs.found.Found.clear.Goals as goal

pub invariant_of-self : goal.invariant_of-self
invariant_of-self c = rw c.clear.ensures.items (noted-none _ refl (λ k below. get_or-replicate 64 k _ _ below))
