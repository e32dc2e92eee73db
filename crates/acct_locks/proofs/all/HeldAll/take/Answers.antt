use Rattle.std.proofs.Common.{◌≡◌, ◌<◌, ℕ, List, All, sym, ap, subst}
use Rattle.acct_locks.specs.Holdings.{AllHand, Holding}
use Rattle.acct_locks.proofs.Rising.{rising_once, rising_snoc}
use Rattle.acct_locks.proofs.all.HeldAll.take.Goals as goal

pub invariant_of-self : goal.invariant_of-self
invariant_of-self g c =
    let held = c.self.inside.locked.items in
    let view : held ≡ c.args.self.now.held = ap (λ (x : AllHand). x.held) c.self.view_is in
    let below : All (λ (x : Holding). x.number < c.args.n.0) held = subst (λ (hs : List Holding). All (λ (x : Holding). x.number < c.args.n.0) hs) (sym view) c.requires.rising in
    rw c.push_reserved.ensures.items (rising_snoc held _ c.self.invariant (subst (λ (m : ℕ). All (λ (x : Holding). x.number < m) held) (sym c.lock-guard.ensures) below))

pub returns-clause-once : goal.returns-clause-once
returns-clause-once g c = rising_once _ (invariant_of-self g c)
