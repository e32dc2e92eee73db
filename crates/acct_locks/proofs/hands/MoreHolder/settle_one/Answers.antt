use Rattle.std.proofs.Common.{◌≡◌, [], ◌∷◌, List, sym, ap, ◌∙◌, subst}
use Rattle.std.specs.Sync.Mutex.{mutex_guard_value}
use Rattle.acct_locks.specs.Holdings.{Holding, Hand, HoldsOnce, held_with}
use Rattle.acct_locks.proofs.Holdings.{last_alone, settled_last}
use Rattle.acct_locks.proofs.hands.MoreHolder.settle_one.Goals as goal

pub returns-then-number-leg-clause-held : goal.returns-then-number-leg-clause-held
returns-then-number-leg-clause-held g c =
    let leg = c.args.leg.now in
    let h : Holding = (mutex_guard_value c.self.inside.last).purse in
    let rest : List Holding = g.H.Holder.held c.self.inside.rest in
    let view : h ∷ rest ≡ c.args.self.now.held = ap (λ (x : Hand). x.held) c.self.view_is in
    let once : HoldsOnce (h ∷ rest) leg.account.0 = subst (λ (hs : List Holding). HoldsOnce hs leg.account.0) (sym view) c.requires.once in
    let is : leg.account.0 ≡ h.number = sym c.if-number-leg.true ∙ c.number.ensures ∙ ap (λ x. x.purse.number) c.deref.ensures in
    let purse = c.deref_mut.result.now.purse in
    let same : purse ≡ h = ap (λ x. x.purse) c.deref_mut.ensures.value in
    settled_last leg purse h c.add.new.self rest same c.add.ensures.purse is (last_alone h rest leg.account.0 (sym is) once) ∙ ap (λ (hs : List Holding). held_with (leg ∷ []) hs) view
