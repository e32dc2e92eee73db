use Rattle.std.proofs.Common.{◌≡◌, ◌<◌, List, length, get_or, sym, ap, ◌∙◌, subst}
use Rattle.acct_locks.specs.Holdings.{AllHand, Holding, held_totals}
use Rattle.acct_locks.proofs.Rising.{totals_at}
use Rattle.acct_locks.proofs.all.HeldAllHeld.totals.Goals as goal

pub returns : goal.returns
returns g c =
    let held = c.self.inside.locked.items in
    let n = c.args.n.0 in
    let i = c.place-at.result in
    let view : held ≡ c.args.self.now.held = ap (λ (x : AllHand). x.held) c.self.view_is in
    let d = c.index.result.now in
    let lt : i < length held = subst (λ (hs : List Holding). i < length hs) (sym view) c.place-at.ensures.there in
    let is : (get_or held i d).number ≡ n = subst (λ (hs : List Holding). (get_or hs i d).number ≡ n) (sym view) (c.place-at.ensures.is d) in
    let at : c.totals.result ≡ (get_or held i d).pair = c.totals.ensures ∙ ap (λ (h : Holding). h.pair) c.index.ensures in
    record { value = at ∙ sym (totals_at held i n d c.self.invariant lt is) ∙ ap (λ (hs : List Holding). held_totals hs n) view }
