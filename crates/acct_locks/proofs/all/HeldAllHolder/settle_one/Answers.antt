use Rattle.std.proofs.Common.{◌≡◌, ◌<◌, [], ◌∷◌, List, length, get_or, set, sym, ap, ◌∙◌, subst}
use Rattle.day_model.specs.Totals.{Pair, Fits64, plus, leg_pair}
use Rattle.acct_locks.specs.Holdings.{AllHand, Holding, AreRising, held_totals, held_with}
use Rattle.acct_locks.proofs.Holdings.{holds_once}
use Rattle.acct_locks.proofs.Rising.{totals_at, settled_at, rising_with}
use Rattle.acct_locks.proofs.all.HeldAllHolder.settle_one.Goals as goal

pub place-at-requires : goal.place-at-requires
place-at-requires g c = record { held = holds_once c.args.self.now.held c.args.leg.now.account.0 c.requires.once }

pub add-requires-clause-fits : goal.add-requires-clause-fits
add-requires-clause-fits g c =
    let held = c.self.inside.locked.items in
    let leg = c.args.leg.now in
    let n = leg.account.0 in
    let i = c.place-at.result in
    let view : held ≡ c.args.self.now.held = ap (λ (x : AllHand). x.held) c.self.view_is in
    let d = c.index_mut.result.now in
    let lt : i < length held = subst (λ (hs : List Holding). i < length hs) (sym view) c.place-at.ensures.there in
    let is : (get_or held i d).number ≡ n = subst (λ (hs : List Holding). (get_or hs i d).number ≡ n) (sym view) (c.place-at.ensures.is d) in
    let here : d ≡ get_or held i d = c.index_mut.ensures.value in
    let totals : held_totals c.args.self.now.held n ≡ d.pair =
    sym (ap (λ (h : Holding). h.pair) here ∙ sym (totals_at held i n d c.self.invariant lt is) ∙ ap (λ (hs : List Holding). held_totals hs n) view) in
    subst (λ (p : Pair). Fits64 (plus p (leg_pair leg))) totals c.requires.fits

pub invariant_of-self : goal.invariant_of-self
invariant_of-self g c =
    let held = c.self.inside.locked.items in
    let leg = c.args.leg.now in
    let n = leg.account.0 in
    let i = c.place-at.result in
    let view : held ≡ c.args.self.now.held = ap (λ (x : AllHand). x.held) c.self.view_is in
    let d = c.index_mut.result.now in
    let lt : i < length held = subst (λ (hs : List Holding). i < length hs) (sym view) c.place-at.ensures.there in
    let is : (get_or held i d).number ≡ n = subst (λ (hs : List Holding). (get_or hs i d).number ≡ n) (sym view) (c.place-at.ensures.is d) in
    let here : d ≡ get_or held i d = c.index_mut.ensures.value in
    let added = c.add.ensures.purse ∙ ap (λ (x : Holding). record { table = x.table; number = x.number; pair = plus x.pair (leg_pair leg) }) here in
    let all : set held i c.add.new.self ≡ held_with (leg ∷ []) held = settled_at leg held i c.add.new.self d c.self.invariant lt is added in
    subst AreRising (sym all) (rising_with (leg ∷ []) held c.self.invariant)

pub returns-clause-held : goal.returns-clause-held
returns-clause-held g c =
    let held = c.self.inside.locked.items in
    let leg = c.args.leg.now in
    let n = leg.account.0 in
    let i = c.place-at.result in
    let view : held ≡ c.args.self.now.held = ap (λ (x : AllHand). x.held) c.self.view_is in
    let d = c.index_mut.result.now in
    let lt : i < length held = subst (λ (hs : List Holding). i < length hs) (sym view) c.place-at.ensures.there in
    let is : (get_or held i d).number ≡ n = subst (λ (hs : List Holding). (get_or hs i d).number ≡ n) (sym view) (c.place-at.ensures.is d) in
    let here : d ≡ get_or held i d = c.index_mut.ensures.value in
    let added = c.add.ensures.purse ∙ ap (λ (x : Holding). record { table = x.table; number = x.number; pair = plus x.pair (leg_pair leg) }) here in
    settled_at leg held i c.add.new.self d c.self.invariant lt is added ∙ ap (λ (hs : List Holding). held_with (leg ∷ []) hs) view
