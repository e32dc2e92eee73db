use Rattle.std.proofs.Common.{List, subst, sym}
use Rattle.day_model.specs.declared.account.Account.{Account}
use Rattle.day_model.specs.inner.Listed.{AreFound}
use Rattle.day_model.proofs.Finding.{found_limits}
use Rattle.day_model.proofs.listed.Listed.change.Goals as goal

pub invariant_of-self : goal.invariant_of-self
invariant_of-self c =
    let listed = c.self-in-Limits.inside in
    subst (λ (accounts : List Account). AreFound accounts listed.index.value.ids.entries listed.index.value.owners.entries) (sym c.set_ends.ensures)
    (found_limits listed.accounts.items listed.index.value.ids.entries listed.index.value.owners.entries _ _ _ c.self-in-Limits.invariant)
