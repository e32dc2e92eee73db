use Rattle.std.proofs.Common.{◌≡◌, ◌<◌, ℕ, List, length, get_or, Some, sym, ap, ◌∙◌, subst}
use Rattle.day_model.specs.Totals.{Pair, pair_at}
use Rattle.acct_locks.specs.Holdings.{AllHand, Holding, held_totals}
use Rattle.acct_locks.proofs.Rising.{totals_at}
use Rattle.acct_locks.proofs.all.HeldAllHeld.agree.Goals as goal

pub returns-clause-agreed : goal.returns-clause-agreed
returns-clause-agreed g c =
    let held = c.self.inside.locked.items in
    let n = c.args.n.0 in
    let i = c.place-at.result in
    let view : held ≡ c.args.self.now.held = ap (λ (x : AllHand). x.held) c.self.view_is in
    let d = c.index_mut.result.now in
    let lt : i < length held = subst (λ (hs : List Holding). i < length hs) (sym view) c.place-at.ensures.there in
    let is : (get_or held i d).number ≡ n = subst (λ (hs : List Holding). (get_or hs i d).number ≡ n) (sym view) (c.place-at.ensures.is d) in
    let here : d ≡ get_or held i d = c.index_mut.ensures.value in
    let number : d.number ≡ n = ap (λ (h : Holding). h.number) here ∙ is in
    let totals : d.pair ≡ held_totals c.args.self.now.held n =
    ap (λ (h : Holding). h.pair) here ∙ sym (totals_at held i n d c.self.invariant lt is) ∙ ap (λ (hs : List Holding). held_totals hs n) view in
    subst (λ (y : ℕ × Pair). pair_at c.args.sides.now.pairs y.0 ≡ Some y.1) (λ k. (number k, totals k)) c.agree.ensures.agreed
