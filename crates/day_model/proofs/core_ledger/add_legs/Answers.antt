use Rattle.std.proofs.Common.{◌≡◌, ◌∷◌, ◌+◌, ◌∙◌, List, ℤ, drop, ap, sym, subst}
use Rattle.std.proofs.lemmas.List.{drop_more}
use Rattle.day_model.specs.declared.pay.Leg.{Leg}
use Rattle.day_model.specs.CoreLedger.{with_legs}
use Rattle.day_model.specs.inner.CoreLedger.{CanAddAll}
use Rattle.day_model.proofs.core_ledger.add_legs.Goals as goal

pub add_leg-requires : goal.add_leg-requires
add_leg-requires c =
    let legs = c.args.legs.now in
    let i = c.loop-leg.leg-index in
    let leg = c.leg-item.result in
    let split : drop i legs ≡ leg ∷ drop (i + 1) legs =
    drop_more legs i leg c.loop-leg-test.true ∙ ap (λ (x : Leg). x ∷ drop (i + 1) legs) (sym c.leg-item.is) in
    (subst (λ (ls : List Leg). CanAddAll c.loop-leg.purses.items ls) split c.loop-leg.invariant.0).0

pub loop-leg-preserved : goal.loop-leg-preserved
loop-leg-preserved c =
    let legs = c.args.legs.now in
    let i = c.loop-leg.leg-index in
    let leg = c.leg-item.result in
    let split : drop i legs ≡ leg ∷ drop (i + 1) legs =
    drop_more legs i leg c.loop-leg-test.true ∙ ap (λ (x : Leg). x ∷ drop (i + 1) legs) (sym c.leg-item.is) in
    let rest = (subst (λ (ls : List Leg). CanAddAll c.loop-leg.purses.items ls) split c.loop-leg.invariant.0).1 in (
      subst (λ (ps : List ℤ). CanAddAll ps (drop (i + 1) legs)) (sym c.add_leg.ensures) rest,
      ap (λ (ps : List ℤ). with_legs ps (drop (i + 1) legs)) c.add_leg.ensures
          ∙ sym (ap (λ (ls : List Leg). with_legs c.loop-leg.purses.items ls) split) ∙ c.loop-leg.invariant.1,
    )
