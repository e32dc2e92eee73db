use Rattle.std.proofs.Common.{◌≡◌, ◌<◌, ◌≤◌, ◌+◌, ◌-◌, ◌/◌, ℕ, List, length, get_or, sym, ap, ◌∙◌, subst, ⊎_elim, arith}
use Rattle.std.proofs.lemmas.Bool.{cases_lt}
use Rattle.acct_locks.specs.Holdings.{AllHand, Holding, Holds}
use Rattle.acct_locks.proofs.Rising.{first_le, found, rising_at, same_at}
use Rattle.acct_locks.proofs.all.HeldAll.place.Goals as goal

pub loop-low-init : goal.loop-low-init
loop-low-init g c =
    let held = c.self.inside.locked.items in
    let view : held ≡ c.args.self.now.held = ap (λ (x : AllHand). x.held) c.self.view_is in
    let it : Holds held c.args.n = subst (λ (hs : List Holding). Holds hs c.args.n) (sym view) c.requires.held in
    let first = first_le held c.args.n c.self.invariant it in
    let len : c.len-high.result ≡ length held = c.len-high.ensures ∙ c.self.inside.locked.ok.0 in
    let some = first.0 in
    record {
      some = omega (arith, len, some);
      within = omega (arith, len);
      first = first.1;
      rest = λ k d high lt. absurd (omega (arith, len, high, lt));
    }

pub loop-low-preserved : goal.loop-low-preserved
loop-low-preserved g c =
    let held = c.self.inside.locked.items in
    let i = c.loop-low.invariant in
    let low = c.loop-low.low in
    let high = c.loop-low.high in
    let more : low + 1 < high = omega (arith, c.loop-low-test.true) in
    let middle = low + (high - low) / 2 in
    let above : low < middle = omega (arith, more) in
    let below : middle < high = omega (arith, more) in
    let within : high ≤ length held = i.within in
    record {
      some = above;
      within = omega (arith, below, within);
      first = i.first;
      rest = λ k d from lt.
          let there : middle < length held = omega (arith, below, within) in
          let is : c.number.result ≡ (get_or held middle d).number =
          c.number.ensures ∙ ap (λ (h : Holding). h.number) c.index.ensures ∙ ap (λ (h : Holding). h.number) (same_at held middle c.index.result.now d there) in
          let up : c.args.n < c.number.result = c.if-number-n.false in
          ⊎_elim
          (λ (further : middle < k). let r = rising_at held c.self.invariant middle k d further lt in omega (arith, is, up, r))
          (λ (here : k ≤ middle). let e : middle ≡ k = omega (arith, from, here) in subst (λ (m : ℕ). c.args.n < (get_or held m d).number) e (omega (arith, is, up)))
          (cases_lt middle k);
    }

pub returns-clause-is : goal.returns-clause-is
returns-clause-is g c =
    let held = c.self.inside.locked.items in
    let view : held ≡ c.args.self.now.held = ap (λ (x : AllHand). x.held) c.self.view_is in
    let it : Holds held c.args.n = subst (λ (hs : List Holding). Holds hs c.args.n) (sym view) c.requires.held in
    let i = c.loop-low.invariant in
    let low = c.loop-low.low in
    let some : low < c.loop-low.high = i.some in
    let within : c.loop-low.high ≤ length held = i.within in
    let done : c.loop-low.high ≤ low + 1 = omega (arith, c.loop-low-test.false) in
    let here = found held c.args.n low c.self.invariant it (omega (arith, some, within)) i.first (λ k d up lt. i.rest k d (omega (arith, done, up)) lt) in
    subst (λ (hs : List Holding). (d : Holding) → (get_or hs low d).number ≡ c.args.n) view here
