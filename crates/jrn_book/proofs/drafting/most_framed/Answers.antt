use Rattle.std.proofs.Common.{◌≡◌, ◌+◌, ◌++◌, [], ◌∷◌, take, sym, ap, ◌∙◌, arith}
use Rattle.std.proofs.lemmas.List.{take_more}
use Rattle.day_model.specs.declared.pay.Pay.{Pay}
use Rattle.jrn_book.specs.inner.Drafting.{rooms_for}
use Rattle.jrn_book.proofs.Drafted.{rooms_more}
use Rattle.jrn_book.proofs.drafting.most_framed.Goals as goal

pub loop-p-preserved : goal.loop-p-preserved
loop-p-preserved c =
    let pays = c.args.pays.now in
    let k = c.loop-p.p-index in
    let p = c.p-item.result in
    let taken : rooms_for (take (k + 1) pays) ≡ rooms_for (take k pays ++ p ∷ []) =
    ap rooms_for (take_more pays k p c.loop-p-test.true ∙ ap (λ (x : Pay). take k pays ++ x ∷ []) (sym c.p-item.is)) in
    let more = rooms_more (take k pays) p in
    let so_far = c.loop-p.invariant.0 in
    let bound = c.loop-p.invariant.1 in
    let room = c.most_bytes.ensures.room in
    let few = c.most_bytes.ensures.few in
    (omega (arith, taken, more, so_far, room), omega (arith, bound, few))
