use Rattle.std.proofs.Common.{◌≡◌, ◌∙◌, All, List, Some, ap, subst, sym}
use Rattle.std.proofs.lemmas.List.{take_all}
use Rattle.std.proofs.lemmas.List.Elements.{All-more}
use Rattle.day_model.specs.declared.pay.Leg.{Leg}
use Rattle.day_model.specs.Totals.{pair_at}
use Rattle.acct_locks.specs.Holdings.{Holding, Holds, HoldsOnce, held_totals}
use Rattle.acct_locks.specs.Sides.{Sides}
use Rattle.jrn_book.proofs.ByTotals.{holds_once}
use Rattle.jrn_book.proofs.settling.agree_all.Goals as goal

pub agree-requires-clause-held : goal.agree-requires-clause-held
agree-requires-clause-held g c =
    let held = g.H.Holder.held c.args.held.now in
    let leg = c.leg-item.result in
    let once : HoldsOnce held leg.account.0 = subst (λ (x : Leg). HoldsOnce held x.account.0) (sym c.leg-item.is) (c.requires.held c.loop-leg.leg-index leg c.loop-leg-test.true) in
    subst (λ (hs : List Holding). Holds hs leg.account.0) (sym c.loop-leg.invariant.1) (holds_once held leg.account.0 once)

pub loop-leg-preserved : goal.loop-leg-preserved
loop-leg-preserved g c =
    let held = g.H.Holder.held c.args.held.now in
    let pairs = c.args.sides.now.pairs in
    let leg = c.leg-item.result in
    let P : Leg → Type 0 = λ x. pair_at pairs x.account.0 ≡ Some (held_totals held x.account.0) in
    let so_far = c.loop-leg.invariant in
    let here : P leg =
    ap (λ (s : Sides). pair_at s.pairs leg.account.0) (sym so_far.4) ∙ c.agree.ensures.agreed ∙ ap (λ (hs : List Holding). Some (held_totals hs leg.account.0)) so_far.1 in (
      All-more P c.args.legs.now c.loop-leg.leg-index leg c.loop-leg-test.true so_far.0 (subst P c.leg-item.is here),
      c.agree.ensures.held_same ∙ so_far.1,
      c.agree.ensures.table_same ∙ so_far.2,
      c.agree.ensures.count_same ∙ so_far.3,
      c.agree.ensures.sides_same ∙ so_far.4,
    )

pub returns-clause-agreed : goal.returns-clause-agreed
returns-clause-agreed g c =
    let held = g.H.Holder.held c.args.held.now in
    let pairs = c.args.sides.now.pairs in
    let P : Leg → Type 0 = λ x. pair_at pairs x.account.0 ≡ Some (held_totals held x.account.0) in
    subst (All P) (take_all c.loop-leg.leg-index c.args.legs.now c.loop-leg-test.false) c.loop-leg.invariant.0
